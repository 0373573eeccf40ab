-- The nodes over leaves, part by part.
use Rattle.std.proofs.Common.{◌≡◌, ◌≢◌, ℕ, zero, suc, ◌+◌, ◌-◌, ◌<◌, ◌≤◌, Bool, true, false, List, [], ◌∷◌, ◌++◌, map, length, get_or, take, drop, refl, sym, ap, ◌∙◌, arith, subst, Option, Some, None, drop-cons, Result, Ok, Err, OnOk}
use Rattle.std.specs.Prelude.{◌==◌}
use Rattle.std.proofs.lemmas.Bool.{eqb-true, eqb-false}
use Rattle.std.proofs.lemmas.List.{length-drop}
use Rattle.std.proofs.Math.Seq.{take_all}
use Rattle.std.proofs.lemmas.List.{append_assoc, map-append, drop-drop}
use Rattle.ipld_tree.specs.Cid.{CidParts}
use Rattle.ipld_tree.specs.Tree.{Tree}
use Rattle.ipld_tree.specs.Spelling.{spelling}
use Rattle.ipld_links.specs.Names.{block_name}
use Rattle.files_car.specs.Car.{Section}
use Rattle.atproto_mst.specs.Trees.{Leaf, lower_run, entry_tree, entry_trees, node_map, node_section, subtree, node, subtree_nodes, nodes, nodes_between}
use Rattle.atproto_mst.specs.Nodes.{tree_of_row, row_told}
use Rattle.atproto_mst.specs.Placed.{told, all_told, upper_rest}
use Rattle.atproto_mst.specs.Sinks.{HandsOver, HandsOverFirst, RefusesOne}
use Rattle.atproto_mst.specs.declared.error.MstError.{MstError}
use Rattle.atproto_mst.specs.declared.leaves.Placed.{Placed}
use Rattle.types_repository.specs.declared.repository.Entry.{Entry as Row}
use Rattle.atproto_mst.proofs.Runs.{lower_taken, upper_dropped, upper_tops, entries_skip, nodes_skip, entries_next, nodes_next}
use Rattle.atproto_mst.proofs.Handing.{takes_none, takes_then, refuses_within, first_within}

pub on_ok_more : {T E P Q : Type 0} (r : Result T E) → (P → Q) → OnOk r P → OnOk r Q
on_ok_more (Ok x) f h = f h
on_ok_more (Err e) f h = h

-- ---- subtrees

told_empty : (ps : List Placed) (b : Bool) → b ≡ true → b ≡ (length ps == 0) → all_told ps ≡ []
told_empty [] b h e = refl
told_empty (p ∷ ps) b h e = absurd (full (eqb-true (length (p ∷ ps)) 0 (sym e ∙ h)))
  where
    full : length (p ∷ ps) ≡ 0 → ⊥
    full k = omega arith

pub none_at_zero : (n : ℕ) (es : List Leaf) → n ≡ 0 → None ≡ subtree n es
unfolding subtree
none_at_zero n es h = subst (λ k. None ≡ subtree k es) (sym h) refl

none_of_empty : (n : ℕ) → None ≡ subtree n []
unfolding subtree
none_of_empty zero = refl
none_of_empty (suc n) = refl

pub none_over_none : (n : ℕ) (ps : List Placed) (b : Bool) → b ≡ true → b ≡ (length ps == 0) → None ≡ subtree n (all_told ps)
none_over_none n ps b h e = subst (λ es. None ≡ subtree n es) (sym (told_empty ps b h e)) (none_of_empty n)

pub no_nodes_at_zero : (n : ℕ) (es : List Leaf) → n ≡ 0 → subtree_nodes n es ≡ []
unfolding subtree_nodes
no_nodes_at_zero n es h = subst (λ k. subtree_nodes k es ≡ []) (sym h) refl

no_nodes_of_empty : (n : ℕ) → subtree_nodes n [] ≡ []
unfolding subtree_nodes
no_nodes_of_empty zero = refl
no_nodes_of_empty (suc n) = refl

pub no_nodes_over_none : (n : ℕ) (ps : List Placed) (b : Bool) → b ≡ true → b ≡ (length ps == 0) → subtree_nodes n (all_told ps) ≡ []
no_nodes_over_none n ps b h e = subst (λ es. subtree_nodes n es ≡ []) (sym (told_empty ps b h e)) (no_nodes_of_empty n)

pub takes_no_nodes : {S W : Type 0} (holds : S → W → List Section → Type 0) (s : S) (more : List Section) → more ≡ [] → HandsOver holds s more s
takes_no_nodes holds s more e = subst (λ xs. HandsOver holds s xs s) (sym e) (takes_none holds s)

some_below : (m : ℕ) (ps : List Placed) (b : Bool) → b ≡ false → b ≡ (length ps == 0) → Some (block_name (spelling (node m (all_told ps)))) ≡ subtree (suc m) (all_told ps)
unfolding subtree node
some_below m [] b h e = absurd (eqb-false (length {A = Placed} []) 0 (sym e ∙ h) refl)
some_below m (p ∷ ps) b h e = refl

nodes_below : (m : ℕ) (ps : List Placed) (b : Bool) → b ≡ false → b ≡ (length ps == 0) → nodes m (all_told ps) ≡ subtree_nodes (suc m) (all_told ps)
unfolding subtree_nodes nodes
nodes_below m [] b h e = absurd (eqb-false (length {A = Placed} []) 0 (sym e ∙ h) refl)
nodes_below m (p ∷ ps) b h e = refl

layer_above : (n : ℕ) → n ≢ 0 → suc (n - 1) ≡ n
layer_above n h = omega arith

pub some_subtree : (n : ℕ) (ps : List Placed) (b : Bool) (name : CidParts) → n ≢ 0 → b ≡ false → b ≡ (length ps == 0) → name ≡ block_name (spelling (node (n - 1) (all_told ps))) → Some name ≡ subtree n (all_told ps)
some_subtree n ps b name h f e is = ap (λ x. Some x) is ∙ some_below (n - 1) ps b f e ∙ ap (λ k. subtree k (all_told ps)) (layer_above n h)

pub nodes_subtree : (n : ℕ) (ps : List Placed) (b : Bool) → n ≢ 0 → b ≡ false → b ≡ (length ps == 0) → nodes (n - 1) (all_told ps) ≡ subtree_nodes n (all_told ps)
nodes_subtree n ps b h f e = nodes_below (n - 1) ps b f e ∙ ap (λ k. subtree_nodes k (all_told ps)) (layer_above n h)

-- ---- a node

pub node_made : (n : ℕ) (es lower rest : List Leaf) (left : Option CidParts) (rows : List Row) → lower ≡ lower_run n es → rest ≡ upper_rest n es
    → left ≡ subtree n lower → map tree_of_row (map row_told rows) ≡ entry_trees (subtree n) n [] rest → node_map (map tree_of_row (map row_told rows)) left ≡ node n es
unfolding node
node_made n es lower rest left rows l r e k =
    ap (λ ts. node_map ts left) (k ∙ ap (entry_trees (subtree n) n []) r ∙ entries_skip (subtree n) n [] es)
    ∙ ap (λ x. node_map (entry_trees (subtree n) n [] es) x) (e ∙ ap (subtree n) l)

nodes_are : (n : ℕ) (es lower rest : List Leaf) (t : Tree) → lower ≡ lower_run n es → rest ≡ upper_rest n es → t ≡ node n es
    → subtree_nodes n lower ++ (nodes_between (subtree_nodes n) n rest ++ (node_section t ∷ [])) ≡ nodes n es
unfolding nodes
nodes_are n es lower rest t l r e =
    ap (λ x. subtree_nodes n x ++ (nodes_between (subtree_nodes n) n rest ++ (node_section t ∷ []))) l
    ∙ ap (λ x. subtree_nodes n (lower_run n es) ++ (x ++ (node_section t ∷ []))) (ap (nodes_between (subtree_nodes n) n) r ∙ nodes_skip (subtree_nodes n) n es)
    ∙ ap (λ x. subtree_nodes n (lower_run n es) ++ (nodes_between (subtree_nodes n) n es ++ (node_section x ∷ []))) e

pub left_refused : {S W : Type 0} (holds : S → W → List Section → Type 0) (refuses : W → Section → MstError → Type 0) (old : S) (n : ℕ) (es lower : List Leaf) (e : MstError) → lower ≡ lower_run n es
    → RefusesOne holds refuses old (subtree_nodes n lower) e → RefusesOne holds refuses old (nodes n es) e
left_refused holds refuses old n es lower e l h =
    refuses_within holds refuses old old [] (subtree_nodes n lower) (nodes_between (subtree_nodes n) n (upper_rest n es) ++ (node_section (node n es) ∷ [])) (nodes n es) e
    (takes_none holds old) (nodes_are n es lower (upper_rest n es) (node n es) l refl refl) h

pub left_begun : {S W : Type 0} (holds : S → W → List Section → Type 0) (old new : S) (n : ℕ) (es lower : List Leaf) → lower ≡ lower_run n es
    → HandsOverFirst holds old (subtree_nodes n lower) new → HandsOverFirst holds old (nodes n es) new
left_begun holds old new n es lower l h =
    first_within holds old old new [] (subtree_nodes n lower) (nodes_between (subtree_nodes n) n (upper_rest n es) ++ (node_section (node n es) ∷ [])) (nodes n es)
    (takes_none holds old) (nodes_are n es lower (upper_rest n es) (node n es) l refl refl) h

pub rows_begun : {S W : Type 0} (holds : S → W → List Section → Type 0) (old mid new : S) (n : ℕ) (es lower rest : List Leaf) → lower ≡ lower_run n es → rest ≡ upper_rest n es
    → HandsOver holds old (subtree_nodes n lower) mid → HandsOverFirst holds mid (nodes_between (subtree_nodes n) n rest) new → HandsOverFirst holds old (nodes n es) new
rows_begun holds old mid new n es lower rest l r k h =
    first_within holds old mid new (subtree_nodes n lower) (nodes_between (subtree_nodes n) n rest) (node_section (node n es) ∷ []) (nodes n es)
    k (nodes_are n es lower rest (node n es) l r refl) h

pub last_begun : {S W : Type 0} (holds : S → W → List Section → Type 0) (old mid late new : S) (n : ℕ) (es lower rest : List Leaf) (t : Tree) → lower ≡ lower_run n es → rest ≡ upper_rest n es → t ≡ node n es
    → HandsOver holds old (subtree_nodes n lower) mid → HandsOver holds mid (nodes_between (subtree_nodes n) n rest) late → HandsOverFirst holds late (node_section t ∷ []) new → HandsOverFirst holds old (nodes n es) new
last_begun holds old mid late new n es lower rest t l r s k m h =
    first_within holds old late new (subtree_nodes n lower ++ nodes_between (subtree_nodes n) n rest) (node_section t ∷ []) [] (nodes n es)
    (takes_then holds old mid late (subtree_nodes n lower) (nodes_between (subtree_nodes n) n rest) k m)
    (append_assoc (subtree_nodes n lower) (nodes_between (subtree_nodes n) n rest) (node_section t ∷ []) ∙ nodes_are n es lower rest t l r s) h

pub rows_refused : {S W : Type 0} (holds : S → W → List Section → Type 0) (refuses : W → Section → MstError → Type 0) (old mid : S) (n : ℕ) (es lower rest : List Leaf) (e : MstError) → lower ≡ lower_run n es → rest ≡ upper_rest n es
    → HandsOver holds old (subtree_nodes n lower) mid → RefusesOne holds refuses mid (nodes_between (subtree_nodes n) n rest) e → RefusesOne holds refuses old (nodes n es) e
rows_refused holds refuses old mid n es lower rest e l r k h =
    refuses_within holds refuses old mid (subtree_nodes n lower) (nodes_between (subtree_nodes n) n rest) (node_section (node n es) ∷ []) (nodes n es) e
    k (nodes_are n es lower rest (node n es) l r refl) h

pub last_refused : {S W : Type 0} (holds : S → W → List Section → Type 0) (refuses : W → Section → MstError → Type 0) (old mid late : S) (n : ℕ) (es lower rest : List Leaf) (t : Tree) (e : MstError) → lower ≡ lower_run n es → rest ≡ upper_rest n es → t ≡ node n es
    → HandsOver holds old (subtree_nodes n lower) mid → HandsOver holds mid (nodes_between (subtree_nodes n) n rest) late → RefusesOne holds refuses late (node_section t ∷ []) e → RefusesOne holds refuses old (nodes n es) e
last_refused holds refuses old mid late n es lower rest t e l r s k m h =
    refuses_within holds refuses old late (subtree_nodes n lower ++ nodes_between (subtree_nodes n) n rest) (node_section t ∷ []) [] (nodes n es) e
    (takes_then holds old mid late (subtree_nodes n lower) (nodes_between (subtree_nodes n) n rest) k m)
    (append_assoc (subtree_nodes n lower) (nodes_between (subtree_nodes n) n rest) (node_section t ∷ []) ∙ nodes_are n es lower rest t l r s) h

pub node_taken : {S W : Type 0} (holds : S → W → List Section → Type 0) (old mid late new : S) (n : ℕ) (es lower rest : List Leaf) (t : Tree) → lower ≡ lower_run n es → rest ≡ upper_rest n es → t ≡ node n es
    → HandsOver holds old (subtree_nodes n lower) mid → HandsOver holds mid (nodes_between (subtree_nodes n) n rest) late → HandsOver holds late (node_section t ∷ []) new → HandsOver holds old (nodes n es) new
node_taken holds old mid late new n es lower rest t l r s k m h =
    subst (λ xs. HandsOver holds old xs new) (nodes_are n es lower rest t l r s)
    (takes_then holds old mid new (subtree_nodes n lower) (nodes_between (subtree_nodes n) n rest ++ (node_section t ∷ [])) k
    (takes_then holds mid late new (nodes_between (subtree_nodes n) n rest) (node_section t ∷ []) m h))

-- ---- its entries

pub rest_whole : (k : ℕ) (ps : List Placed) → take (length ps - k) (drop k ps) ≡ drop k ps
rest_whole k ps = take_all (length ps - k) (drop k ps) (omega (arith, length-drop k ps))

pub rows_split : (at : ℕ) (ps : List Placed) (top : Placed) → at < length ps → get_or ps at top ≡ top → all_told (drop at ps) ≡ told top ∷ all_told (drop (at + 1) ps)
rows_split at ps top lt is =
    let next : suc at ≡ at + 1 = omega arith in
    ap all_told (drop-cons ps at top lt)
    ∙ ap (λ p. told p ∷ all_told (drop (suc at) ps)) is
    ∙ ap (λ k. told top ∷ all_told (drop k ps)) next

pub rows_after : (n at k : ℕ) (ps : List Placed) → k ≡ length (lower_run n (all_told (drop (at + 1) ps)))
    → all_told (drop (at + (1 + k)) ps) ≡ upper_rest n (all_told (drop (at + 1) ps))
rows_after n at k ps e =
    let place : at + (1 + k) ≡ (at + 1) + k = omega arith in
    ap (λ j. all_told (drop j ps)) place
    ∙ ap all_told (sym (drop-drop k (at + 1) ps))
    ∙ ap (λ j. all_told (drop j (drop (at + 1) ps))) e
    ∙ upper_dropped n (drop (at + 1) ps)

pub rows_lower : (n at k : ℕ) (ps : List Placed) → k ≡ length (lower_run n (all_told (drop (at + 1) ps)))
    → all_told (take k (drop (at + 1) ps)) ≡ lower_run n (all_told (drop (at + 1) ps))
rows_lower n at k ps e = ap (λ j. all_told (take j (drop (at + 1) ps))) e ∙ lower_taken n (drop (at + 1) ps)

pub tops_next : (n at k : ℕ) (ps : List Placed) → k ≡ length (lower_run n (all_told (drop (at + 1) ps)))
    → lower_run n (all_told (drop (at + (1 + k)) ps)) ≡ []
tops_next n at k ps e = ap (lower_run n) (rows_after n at k ps e) ∙ upper_tops n (all_told (drop (at + 1) ps))

pub rows_next : (sub : List Leaf → Option CidParts) (n at k : ℕ) (ps : List Placed) (top : Placed) (rows : List Row) (row : Row) (previous : List ℕ) (after : Option CidParts) (all : List Tree)
    → at < length ps → get_or ps at top ≡ top → k ≡ length (lower_run n (all_told (drop (at + 1) ps))) → lower_run n (all_told (drop at ps)) ≡ []
    → tree_of_row (row_told row) ≡ entry_tree previous (told top) after → after ≡ sub (all_told (take k (drop (at + 1) ps)))
    → map tree_of_row (map row_told rows) ++ entry_trees sub n previous (all_told (drop at ps)) ≡ all
    → map tree_of_row (map row_told (rows ++ (row ∷ []))) ++ entry_trees sub n top.key.now (all_told (drop (at + (1 + k)) ps)) ≡ all
rows_next sub n at k ps top rows row previous after all lt is e tops made named before =
    let split = rows_split at ps top lt is in
    let first : lower_run n (told top ∷ all_told (drop (at + 1) ps)) ≡ [] = ap (lower_run n) (sym split) ∙ tops in
    let tree : entry_tree previous (told top) (sub (lower_run n (all_told (drop (at + 1) ps)))) ≡ tree_of_row (row_told row) =
    ap (entry_tree previous (told top)) (ap sub (sym (rows_lower n at k ps e)) ∙ sym named) ∙ sym made in
    let here : entry_trees sub n previous (all_told (drop at ps)) ≡ tree_of_row (row_told row) ∷ entry_trees sub n top.key.now (all_told (drop (at + (1 + k)) ps)) =
    ap (entry_trees sub n previous) split
    ∙ entries_next sub n previous (told top) (all_told (drop (at + 1) ps)) first
    ∙ ap (λ t. t ∷ entry_trees sub n top.key.now (upper_rest n (all_told (drop (at + 1) ps)))) tree
    ∙ ap (λ x. tree_of_row (row_told row) ∷ entry_trees sub n top.key.now x) (sym (rows_after n at k ps e)) in
    ap (λ m. m ++ entry_trees sub n top.key.now (all_told (drop (at + (1 + k)) ps))) (ap (map tree_of_row) (map-append row_told rows (row ∷ [])) ∙ map-append tree_of_row (map row_told rows) (row_told row ∷ []))
    ∙ append_assoc (map tree_of_row (map row_told rows)) (tree_of_row (row_told row) ∷ []) (entry_trees sub n top.key.now (all_told (drop (at + (1 + k)) ps)))
    ∙ ap (λ z. map tree_of_row (map row_told rows) ++ z) (sym here)
    ∙ before

pub nodes_here : (below : List Leaf → List Section) (n at k : ℕ) (ps : List Placed) (top : Placed) (done all : List Section)
    → at < length ps → get_or ps at top ≡ top → k ≡ length (lower_run n (all_told (drop (at + 1) ps))) → lower_run n (all_told (drop at ps)) ≡ []
    → done ++ nodes_between below n (all_told (drop at ps)) ≡ all
    → done ++ (below (all_told (take k (drop (at + 1) ps))) ++ nodes_between below n (all_told (drop (at + (1 + k)) ps))) ≡ all
nodes_here below n at k ps top done all lt is e tops before =
    let split = rows_split at ps top lt is in
    let first : lower_run n (told top ∷ all_told (drop (at + 1) ps)) ≡ [] = ap (lower_run n) (sym split) ∙ tops in
    let here : nodes_between below n (all_told (drop at ps)) ≡ below (all_told (take k (drop (at + 1) ps))) ++ nodes_between below n (all_told (drop (at + (1 + k)) ps)) =
    ap (nodes_between below n) split
    ∙ nodes_next below n (told top) (all_told (drop (at + 1) ps)) first
    ∙ ap (λ x. below x ++ nodes_between below n (upper_rest n (all_told (drop (at + 1) ps)))) (sym (rows_lower n at k ps e))
    ∙ ap (λ x. below (all_told (take k (drop (at + 1) ps))) ++ nodes_between below n x) (sym (rows_after n at k ps e)) in
    ap (λ z. done ++ z) (sym here) ∙ before

pub bound_next : (at k : ℕ) (ps : List Placed) → at < length ps → k ≤ length (take (length ps - (at + 1)) (drop (at + 1) ps)) → at + (1 + k) ≤ length ps
bound_next at k ps lt h = omega (arith, h, ap length (rest_whole (at + 1) ps), length-drop (at + 1) ps)
