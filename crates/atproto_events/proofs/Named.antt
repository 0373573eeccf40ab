-- A root that is computed from pieces is that of the entries that they stand for.
use Rattle.std.proofs.Common.{◌≡◌, ◌⊎◌, inl, inr, ℕ, zero, suc, max, ◌<◌, ◌≤◌, List, [], ◌∷◌, ◌++◌, Option, Some, None, refl, sym, ap, ap₂, ◌∙◌, subst, arith, lt-ltb, le-ltb}
use Rattle.std.specs.Prelude.{if◌then◌else◌}
use Rattle.std.proofs.lemmas.List.{map-append}
use Rattle.ipld_tree.specs.Cid.{CidParts}
use Rattle.ipld_tree.specs.Tree.{Tree}
use Rattle.ipld_tree.specs.Spelling.{spelling}
use Rattle.ipld_links.specs.Names.{block_name}
use Rattle.atproto_mst.specs.Keys.{Entry, key_layer}
use Rattle.atproto_mst.specs.Trees.{Leaf, leaf_of, leaves, lower_run, entry_tree, entry_trees, node_map, subtree, node, top_layer, mst}
use Rattle.atproto_mst.proofs.Runs.{lower_first, top_first}
use Rattle.atproto_mst.proofs.Canonical.{AreBelow}
use Rattle.atproto_events.specs.Pieces.{PieceParts, StandsFor, Fills, lower_pieces, top_piece}
use Rattle.atproto_events.specs.Naming.{NamesRows, NamesOver, NamesBelow}
use Rattle.atproto_events.specs.Laws.{NamedRight}

-- ---- leaves that are lower, before others

lower_front : (n : ℕ) (es fs : List Leaf) → AreBelow n es → lower_run n (es ++ fs) ≡ es ++ lower_run n fs
lower_front n [] fs b = refl
lower_front n (e ∷ es) fs b = lower_first n e (es ++ fs) b.0 ∙ ap (λ t. e ∷ t) (lower_front n es fs b.1)

entries_front : (sub : List Leaf → Option CidParts) (n : ℕ) (previous : List ℕ) (es fs : List Leaf) → AreBelow n es → entry_trees sub n previous (es ++ fs) ≡ entry_trees sub n previous fs
entries_front sub n previous [] fs b = refl
entries_front sub n previous (e ∷ es) fs b =
    ap (λ x. if x then entry_trees sub n previous (es ++ fs) else entry_tree previous e (sub (lower_run n (es ++ fs))) ∷ entry_trees sub n e.key (es ++ fs)) (lt-ltb e.layer n b.0)
    ∙ entries_front sub n previous es fs b.1

entries_top : (sub : List Leaf → Option CidParts) (n : ℕ) (previous : List ℕ) (e : Leaf) (es : List Leaf) → n ≤ e.layer
    → entry_trees sub n previous (e ∷ es) ≡ entry_tree previous e (sub (lower_run n es)) ∷ entry_trees sub n e.key es
entries_top sub n previous e es top =
    ap (λ x. if x then entry_trees sub n previous es else entry_tree previous e (sub (lower_run n es)) ∷ entry_trees sub n e.key es) (le-ltb e.layer n top)

lower_piece : (n : ℕ) (p : PieceParts) (ps : List PieceParts) → p.layer < n → lower_pieces n (p ∷ ps) ≡ p ∷ lower_pieces n ps
lower_piece n p ps lt = ap (λ b. if b then p ∷ lower_pieces n ps else []) (lt-ltb p.layer n lt)

top_stops : (n : ℕ) (p : PieceParts) (ps : List PieceParts) → n ≤ p.layer → lower_pieces n (p ∷ ps) ≡ []
top_stops n p ps le = ap (λ b. if b then p ∷ lower_pieces n ps else []) (le-ltb p.layer n le)

below_to : (m n : ℕ) (es : List Leaf) → m ≤ n → AreBelow m es → AreBelow n es
below_to m n [] le b = tt
below_to m n (e ∷ es) le b = (omega (arith, le, b.0), below_to m n es le b.1)

below_joined : (n : ℕ) (es fs : List Leaf) → AreBelow n es → AreBelow n fs → AreBelow n (es ++ fs)
below_joined n [] fs b c = c
below_joined n (e ∷ es) fs b c = (b.0, below_joined n es fs b.1 c)

-- ---- what one piece stands for

stands_below : (m n : ℕ) (cid : CidParts) (key : Option (List ℕ)) (es : List Entry) → StandsFor m cid key es → m < n → AreBelow n (leaves es)
stands_below m n cid (Some k) es s lt = subst (λ x. AreBelow n (leaves x)) (sym s.1) (omega (arith, s.0, lt), tt)
stands_below m n cid None es s lt = below_to (suc m) n (leaves es) (omega (arith, lt)) s.1

-- a piece of a key stands for its entry
stands_one : (p : PieceParts) (k : List ℕ) (es : List Entry) → p.key ≡ Some k → StandsFor p.layer p.cid p.key es → (p.layer ≡ key_layer k) × (es ≡ (k, p.cid) ∷ [])
stands_one p k es is s = subst (λ x. StandsFor p.layer p.cid x es) is s

none_not_some : (n : ℕ) (cid : CidParts) → subtree (suc n) [] ≡ Some cid → ⊥
unfolding subtree
none_not_some n cid h = absurd (cc h)

stands_some : (m : ℕ) (cid : CidParts) (key : Option (List ℕ)) (es : List Entry) → StandsFor m cid key es → (e : Entry) × (more : List Entry) × (es ≡ e ∷ more)
stands_some m cid (Some k) es s = ((k, cid), [], s.1)
stands_some m cid None [] s = absurd (none_not_some m cid s.0)
stands_some m cid None (e ∷ es) s = (e, es, refl)

leaves_joined : (a b : List Entry) → leaves (a ++ b) ≡ leaves a ++ leaves b
leaves_joined a b = map-append leaf_of a b

-- ---- the rows of a node

-- what the lower pieces before the others stand for
lower_fills : (N : List PieceParts → Option CidParts → Type 0) (n : ℕ) (previous : List ℕ) (ps : List PieceParts) (ts : List Tree) (es : List Entry) → NamesRows N n previous ps ts → Fills ps es
    → (run : List Entry) × Fills (lower_pieces n ps) run × (leaves run ≡ lower_run n (leaves es))
lower_fills N n previous [] ts es r f = ([], refl, sym (ap (λ x. lower_run n (leaves x)) f))
lower_fills N n previous (p ∷ ps) ts es (inl (low, r)) (first, more, s, f, e) =
    let w = lower_fills N n previous ps ts more r f in
    let b = stands_below p.layer n p.cid p.key first s low in (
      first ++ w.0,
      subst (λ x. Fills x (first ++ w.0)) (sym (lower_piece n p ps low)) (first, w.0, s, w.1, refl),
      leaves_joined first w.0 ∙ ap (λ x. leaves first ++ x) w.2 ∙ sym (ap (λ x. lower_run n (leaves x)) e ∙ ap (lower_run n) (leaves_joined first more) ∙ lower_front n (leaves first) (leaves more) b),
    )
lower_fills N n previous (p ∷ ps) ts es (inr (top, (k, after, rows, key, named, r, all))) (first, more, s, f, e) =
    let one = stands_one p k first key s in (
      [],
      subst (λ x. Fills x []) (sym (top_stops n p ps top)) refl,
      sym (ap (λ x. lower_run n (leaves x)) (e ∙ ap (λ x. x ++ more) one.1) ∙ top_first n (leaf_of (k, p.cid)) (leaves more) (omega (arith, top, one.0))),
    )

-- the trees below are named right
abbrev NamesRight : ℕ → (List PieceParts → Option CidParts → Type 0) → Type 0
NamesRight n N = (ps : List PieceParts) (name : Option CidParts) (es : List Entry) → N ps name → Fills ps es → name ≡ subtree n (leaves es)

rows_right : (N : List PieceParts → Option CidParts → Type 0) (n : ℕ) → NamesRight n N → (previous : List ℕ) (ps : List PieceParts) (ts : List Tree) (es : List Entry) → NamesRows N n previous ps ts → Fills ps es
    → ts ≡ entry_trees (subtree n) n previous (leaves es)
rows_right N n right previous [] ts es r f = r ∙ sym (ap (λ x. entry_trees (subtree n) n previous (leaves x)) f)
rows_right N n right previous (p ∷ ps) ts es (inl (low, r)) (first, more, s, f, e) =
    let b = stands_below p.layer n p.cid p.key first s low in
    rows_right N n right previous ps ts more r f
    ∙ sym (ap (λ x. entry_trees (subtree n) n previous (leaves x)) e ∙ ap (entry_trees (subtree n) n previous) (leaves_joined first more) ∙ entries_front (subtree n) n previous (leaves first) (leaves more) b)
rows_right N n right previous (p ∷ ps) ts es (inr (top, (k, after, rows, key, named, r, all))) (first, more, s, f, e) =
    let one = stands_one p k first key s in
    let w = lower_fills N n k ps rows more r f in
    all
    ∙ ap₂ (λ t xs. entry_tree previous (leaf_of (k, p.cid)) t ∷ xs) (right (lower_pieces n ps) after w.0 named w.1 ∙ ap (subtree n) w.2) (rows_right N n right k ps rows more r f)
    ∙ sym (ap (λ x. entry_trees (subtree n) n previous (leaves x)) (e ∙ ap (λ x. x ++ more) one.1) ∙ entries_top (subtree n) n previous (leaf_of (k, p.cid)) (leaves more) (omega (arith, top, one.0)))

over_right : (N : List PieceParts → Option CidParts → Type 0) (n : ℕ) → NamesRight n N → (ps : List PieceParts) (t : Tree) (es : List Entry) → NamesOver N n ps t → Fills ps es → t ≡ node n (leaves es)
unfolding node
over_right N n right ps t es (left, ts, named, r, all) f =
    let w = lower_fills N n [] ps ts es r f in
    all ∙ ap₂ (λ xs l. node_map xs l) (rows_right N n right [] ps ts es r f) (right (lower_pieces n ps) left w.0 named w.1 ∙ ap (subtree n) w.2)

some_subtree : (n : ℕ) (e : Leaf) (es : List Leaf) → subtree (suc n) (e ∷ es) ≡ Some (block_name (spelling (node n (e ∷ es))))
unfolding subtree node
some_subtree n e es = refl

none_at_zero : (es : List Leaf) → None ≡ subtree zero es
unfolding subtree
none_at_zero es = refl

none_over_none : (n : ℕ) → None ≡ subtree (suc n) []
unfolding subtree
none_over_none n = refl

no_more : {X : Type 0} (xs : List X) → xs ++ [] ≡ xs
no_more [] = refl
no_more (x ∷ xs) = ap (λ l. x ∷ l) (no_more xs)

lone_right : (m n : ℕ) (cid : CidParts) (key : Option (List ℕ)) (first more es : List Entry) → m ≡ n → key ≡ None → StandsFor m cid key first → more ≡ [] → es ≡ first ++ more
    → Some cid ≡ subtree (suc n) (leaves es)
lone_right m n cid key first more es is none s f e =
    let here = subst (λ x. StandsFor m cid x first) none s in
    sym here.0 ∙ ap (λ x. subtree (suc x) (leaves first)) is ∙ ap (λ x. subtree (suc n) (leaves x)) (sym (e ∙ ap (λ x. first ++ x) f ∙ no_more first))

below_right : (n : ℕ) → NamesRight n (NamesBelow n)
below_right zero ps name es h f = h ∙ none_at_zero (leaves es)
below_right (suc n) [] name es h f = h ∙ none_over_none n ∙ ap (λ x. subtree (suc n) (leaves x)) (sym f)
below_right (suc n) (p ∷ ps) name es (inl (layer, none, alone, is)) (first, more, s, f, e) =
    is ∙ lone_right p.layer n p.cid p.key first more es layer none s (subst (λ x. Fills x more) alone f) e
below_right (suc n) (p ∷ ps) name es (inr (t, over, is)) f =
    let some = stands_some p.layer p.cid p.key f.0 f.2 in
    let whole : es ≡ some.0 ∷ (some.1 ++ f.1) = f.4 ∙ ap (λ x. x ++ f.1) some.2 in
    is ∙ ap (λ x. Some (block_name (spelling x))) (over_right (NamesBelow n) n (below_right n) (p ∷ ps) t es over f)
    ∙ ap (λ x. Some (block_name (spelling (node n (leaves x))))) whole
    ∙ sym (some_subtree n (leaf_of some.0) (leaves (some.1 ++ f.1)))
    ∙ sym (ap (λ x. subtree (suc n) (leaves x)) whole)

-- ---- the layer of the root

top_front : (es fs : List Leaf) → top_layer fs ≤ top_layer (es ++ fs)
top_front [] fs = omega arith
top_front (e ∷ es) fs = omega (arith, top_front es fs)

top_within : (n : ℕ) (es : List Leaf) → AreBelow (suc n) es → top_layer es ≤ n
top_within n [] b = omega arith
top_within n (e ∷ es) b = omega (arith, b.0, top_within n es b.1)

fills_within : (n : ℕ) (ps : List PieceParts) (es : List Entry) → Fills ps es → top_piece ps ≤ n → AreBelow (suc n) (leaves es)
fills_within n [] es f le = subst (λ x. AreBelow (suc n) (leaves x)) (sym f) tt
fills_within n (p ∷ ps) es (first, more, s, f, e) le =
    subst (λ x. AreBelow (suc n) x) (sym (ap leaves e ∙ leaves_joined first more))
    (below_joined (suc n) (leaves first) (leaves more) (stands_below p.layer (suc n) p.cid p.key first s (omega (arith, le))) (fills_within n ps more f (omega (arith, le))))

-- a leaf of the layer, or all pieces are lower
reaches : (N : List PieceParts → Option CidParts → Type 0) (n : ℕ) (previous : List ℕ) (ps : List PieceParts) (ts : List Tree) (es : List Entry) → NamesRows N n previous ps ts → Fills ps es
    → ((ps ≡ []) ⊎ (top_piece ps < n)) ⊎ (n ≤ top_layer (leaves es))
reaches N n previous [] ts es r f = inl (inl refl)
reaches N n previous (p ∷ ps) ts es (inl (low, r)) (first, more, s, f, e) = by (reaches N n previous ps ts more r f)
  where
    whole : top_layer (leaves es) ≡ top_layer (leaves first ++ leaves more)
    whole = ap top_layer (ap leaves e ∙ leaves_joined first more)

    by : ((ps ≡ []) ⊎ (top_piece ps < n)) ⊎ (n ≤ top_layer (leaves more)) → ((p ∷ ps ≡ []) ⊎ (top_piece (p ∷ ps) < n)) ⊎ (n ≤ top_layer (leaves es))
    by (inl (inl none)) = inl (inr (omega (arith, low, ap top_piece none)))
    by (inl (inr less)) = inl (inr (omega (arith, low, less)))
    by (inr far) = inr (omega (arith, far, whole, top_front (leaves first) (leaves more)))
reaches N n previous (p ∷ ps) ts es (inr (top, (k, after, rows, key, named, r, all))) (first, more, s, f, e) =
    let one = stands_one p k first key s in
    let whole : top_layer (leaves es) ≡ max (key_layer k) (top_layer (leaves more)) = ap (λ x. top_layer (leaves x)) (e ∙ ap (λ x. x ++ more) one.1) in
    inr (omega (arith, top, one.0, whole))

root_layer : (N : List PieceParts → Option CidParts → Type 0) (ps : List PieceParts) (ts : List Tree) (es : List Entry) → NamesRows N (top_piece ps) [] ps ts → Fills ps es → top_piece ps ≡ top_layer (leaves es)
root_layer N ps ts es r f = by (reaches N (top_piece ps) [] ps ts es r f)
  where
    within : top_layer (leaves es) ≤ top_piece ps
    within = top_within (top_piece ps) (leaves es) (fills_within (top_piece ps) ps es f (omega arith))

    by : ((ps ≡ []) ⊎ (top_piece ps < top_piece ps)) ⊎ (top_piece ps ≤ top_layer (leaves es)) → top_piece ps ≡ top_layer (leaves es)
    by (inl (inl none)) = let zero_is : top_piece ps ≡ 0 = ap top_piece none in omega (arith, zero_is, within)
    by (inl (inr less)) = absurd (omega (arith, less))
    by (inr far) = omega (arith, far, within)

pub named_right : NamedRight
unfolding mst
named_right ps root es (t, over, is) f =
    is ∙ ap (λ x. block_name (spelling x)) (over_right (NamesBelow (top_piece ps)) (top_piece ps) (below_right (top_piece ps)) ps t es over f)
    ∙ ap (λ n. block_name (spelling (node n (leaves es)))) (root_layer (NamesBelow (top_piece ps)) ps over.1 es over.3 f)
