-- Nodes that are opened row by row.
use Rattle.std.proofs.Common.{◌≡◌, ◌⊎◌, inl, inr, ℕ, zero, suc, Bool, true, false, ◌+◌, ◌<◌, ◌≤◌, List, [], ◌∷◌, ◌++◌, map, length, get_or, drop, drop-cons, Option, Some, None, refl, sym, ap, ◌∙◌, subst, arith, append_assoc, append-nil, Result, Ok, Err, OnOk, IfErr}
use Rattle.ipld_tree.specs.Cid.{CidParts}
use Rattle.ipld_links.specs.Reaching.{Stored}
use Rattle.ipld_links.specs.Sets.{Among, members, AddsCid}
use Rattle.ipld_links.specs.declared.cid_set.CidSet.{CidSet}
use Rattle.std.specs.Prelude.{if◌then◌else◌, is_some}
use Rattle.atproto_mst.specs.Keys.{key_layer}
use Rattle.atproto_mst.specs.Nodes.{NodeRow, NodeParts, IsNodeAt, row_told, key_of_row}
use Rattle.atproto_mst.specs.InLayers.{IsEmpty, first_layer}
use Rattle.atproto_events.specs.Pieces.{PieceParts, piece_of, pieces, subtree_piece, OpensLink, OpensRows, OpensNode, OpensBelow, OpensTree}
use Rattle.atproto_events.specs.Opening.{UnreadNode, RowUnfit, LinkStops, RowsStop, NodeStops, StopsBelow, TreeFault, last_key, HoldsSubtree, AreHeld}
use Rattle.atproto_events.specs.declared.pieces.Piece.{Piece}
use Rattle.atproto_events.proofs.Places.{piece_at}
use Rattle.atproto_events.specs.declared.error.UndoError.{UndoError}
use Rattle.atproto_events.specs.declared.error.UndoError.TheVariants as error
use Rattle.types_repository.specs.declared.repository.Entry.{Entry as Row}

-- in a node of layer n, the rows that remain continue the pieces of all rows
abbrev pub GoesOn : (CidParts → List PieceParts → Type 0) → ℕ → Option CidParts → List NodeRow → List PieceParts → List ℕ → List NodeRow → List PieceParts → Type 0
GoesOn F n left rows old key rest now = (below : List PieceParts) × OpensLink F left below
    × ((more : List PieceParts) → OpensRows F n key rest more → (whole : List PieceParts) × OpensRows F n [] rows whole × (old ++ (below ++ whole) ≡ now ++ more))

module _ (F : CidParts → List PieceParts → Type 0) (n : ℕ) (left : Option CidParts) (rows : List NodeRow) (old : List PieceParts) where
  pub goes_begins : (now : List PieceParts) (key : List ℕ) → key ≡ [] → (below : List PieceParts) × OpensLink F left below × (now ≡ old ++ below) → GoesOn F n left rows old key rows now
  goes_begins now key empty (below, link, is) =
      (below, link, λ more h. (more, subst (λ k. OpensRows F n k rows more) empty h, sym (append_assoc old below more) ∙ ap (λ x. x ++ more) (sym is)))

  pub goes_next : (key next : List ℕ) (r : NodeRow) (rest : List NodeRow) (now wider after : List PieceParts) → next ≡ key_of_row key r → key_layer next ≡ n
      → wider ≡ now ++ (record { layer = n; key = Some next; cid = r.value } ∷ []) → (below : List PieceParts) × OpensLink F r.after below × (after ≡ wider ++ below)
      → GoesOn F n left rows old key (r ∷ rest) now → GoesOn F n left rows old next rest after
  goes_next key next r rest now wider after made layer pushed (under, link, is) (below, first, h) = (
    below,
    first,
    λ more rows_more.
        let piece : PieceParts = record { layer = n; key = Some next; cid = r.value } in
        let here : OpensRows F n key (r ∷ rest) (piece ∷ (under ++ more)) = (
          under,
          more,
          link,
          subst (λ k. OpensRows F n k rest more) made rows_more,
          ap (λ k. record { layer = n; key = Some k; cid = r.value } ∷ (under ++ more)) made,
          ap key_layer (sym made) ∙ layer,
        ) in
        let w = h (piece ∷ (under ++ more)) here in
        (w.0, w.1, w.2 ∙ sym (ap (λ x. x ++ more) (is ∙ ap (λ x. x ++ under) pushed) ∙ append_assoc (now ++ (piece ∷ [])) under more ∙ append_assoc now (piece ∷ []) (under ++ more))),
  )

  pub goes_end : (key : List ℕ) (rest : List NodeRow) (now : List PieceParts) → rest ≡ [] → GoesOn F n left rows old key rest now
      → (more : List PieceParts) × OpensNode F n record { left = left; rows = rows } more × (now ≡ old ++ more)
  goes_end key rest now none (below, first, h) =
      let w = h [] (subst (λ rs. OpensRows F n key rs []) (sym none) refl) in
      (below ++ w.0, (below, w.0, first, w.1, refl), sym (w.2 ∙ append-nil now))

-- ---- rows as they are held

pub rows_at : (rows : List Row) (i : ℕ) (r : Row) → i < length rows → get_or rows i r ≡ r → map row_told (drop i rows) ≡ row_told r ∷ map row_told (drop (i + 1) rows)
rows_at rows i r lt is =
    let next : suc i ≡ i + 1 = omega arith in
    ap (map row_told) (drop-cons rows i r lt)
    ∙ ap (λ x. row_told x ∷ map row_told (drop (suc i) rows)) is
    ∙ ap (λ k. row_told r ∷ map row_told (drop k rows)) next

-- ---- where the walk stops

module _ (F : CidParts → List PieceParts → Type 0) (S : List PieceParts → CidParts → UndoError → Type 0) (n : ℕ) (p : NodeParts) (old : List PieceParts) where
  -- a stop at the rows that are left is one of the node
  abbrev pub StopsOn : List PieceParts → List ℕ → List NodeRow → Type 0
  StopsOn now key rest = (e : UndoError) → RowsStop F S n now key rest e → NodeStops F S n old p e

  pub stops_begins : (now : List PieceParts) (key : List ℕ) → key ≡ [] → (below : List PieceParts) × OpensLink F p.left below × (now ≡ old ++ below) → StopsOn now key p.rows
  stops_begins now key empty (below, link, is) e h =
      inr (below, link, subst (λ x. RowsStop F S n x [] p.rows e) is (subst (λ k. RowsStop F S n now k p.rows e) empty h))

  pub stops_next : (key next : List ℕ) (r : NodeRow) (rest : List NodeRow) (now wider after : List PieceParts) → next ≡ key_of_row key r
      → wider ≡ now ++ (record { layer = n; key = Some next; cid = r.value } ∷ []) → (below : List PieceParts) × OpensLink F r.after below × (after ≡ wider ++ below)
      → StopsOn now key (r ∷ rest) → StopsOn after next rest
  stops_next key next r rest now wider after made pushed (under, link, is) h e stop =
      let piece : PieceParts = record { layer = n; key = Some next; cid = r.value } in
      let whole : after ≡ now ++ (piece ∷ under) = is ∙ ap (λ x. x ++ under) pushed ∙ append_assoc now (piece ∷ []) under in
      h e (inr (inr (under, link, subst (λ k. RowsStop F S n (now ++ (record { layer = n; key = Some k; cid = r.value } ∷ under)) k rest e) made (subst (λ x. RowsStop F S n x next rest e) whole stop))))

  pub stops_at_row : (key : List ℕ) (r : NodeRow) (rest : List NodeRow) (now : List PieceParts) (e : UndoError) → (e ≡ error.OutOfMemory) ⊎ ((e ≡ error.OtherTree) × RowUnfit n now key r)
      → StopsOn now key (r ∷ rest) → (e ≡ error.OutOfMemory) ⊎ NodeStops F S n old p e
  stops_at_row key r rest now e (inl memory) h = inl memory
  stops_at_row key r rest now e (inr unfit) h = inr (h e (inl unfit))

  pub stops_after_row : (key next : List ℕ) (r : NodeRow) (rest : List NodeRow) (now wider : List PieceParts) (e : UndoError) → next ≡ key_of_row key r
      → wider ≡ now ++ (record { layer = n; key = Some next; cid = r.value } ∷ []) → (e ≡ error.OutOfMemory) ⊎ LinkStops S wider r.after e
      → StopsOn now key (r ∷ rest) → (e ≡ error.OutOfMemory) ⊎ NodeStops F S n old p e
  stops_after_row key next r rest now wider e made pushed (inl memory) h = inl memory
  stops_after_row key next r rest now wider e made pushed (inr stop) h =
      inr (h e (inr (inl (subst (λ k. LinkStops S (now ++ (record { layer = n; key = Some k; cid = r.value } ∷ [])) r.after e) made (subst (λ x. LinkStops S x r.after e) pushed stop)))))

pub stops_left : (F : CidParts → List PieceParts → Type 0) (S : List PieceParts → CidParts → UndoError → Type 0) (n : ℕ) (p : NodeParts) (old : List PieceParts) (e : UndoError)
    → (e ≡ error.OutOfMemory) ⊎ LinkStops S old p.left e → (e ≡ error.OutOfMemory) ⊎ NodeStops F S n old p e
stops_left F S n p old e (inl memory) = inl memory
stops_left F S n p old e (inr stop) = inr (inl stop)

-- ---- subtrees that are held

held_more : (name : CidParts) (ps qs : List PieceParts) → HoldsSubtree name ps → HoldsSubtree name (ps ++ qs)
held_more name [] qs h = absurd h
held_more name (p ∷ ps) qs (inl h) = inl h
held_more name (p ∷ ps) qs (inr h) = inr (held_more name ps qs h)

held_last : (n : ℕ) (name : CidParts) (ps : List PieceParts) → HoldsSubtree name (ps ++ (subtree_piece n name ∷ []))
held_last n name [] = inl (refl, refl)
held_last n name (p ∷ ps) = inr (held_last n name ps)

pub still_held : (lost : CidSet) (ps qs more : List PieceParts) → qs ≡ ps ++ more → AreHeld lost ps → AreHeld lost qs
still_held lost ps qs more is h q m = subst (HoldsSubtree q) (sym is) (held_more q ps more (h q m))

pub one_held : (old new : CidSet) (n : ℕ) (name : CidParts) (ps qs : List PieceParts) → AddsCid name old new → qs ≡ ps ++ (subtree_piece n name ∷ []) → AreHeld old ps → AreHeld new qs
one_held old new n name ps qs adds is h q m = subst (HoldsSubtree q) (sym is) (elim ((adds.1 q).0 m) [
  | inl there ↦ held_more q ps (subtree_piece n name ∷ []) (h q there)
  | inr same ↦ subst (λ x. HoldsSubtree x (ps ++ (subtree_piece n name ∷ []))) (sym same) (held_last n name ps)
])

pub one_held_if : {E : Type 0} (r : Result (Unit {0}) E) (old new : CidSet) (n : ℕ) (name : CidParts) (ps qs : List PieceParts) → AddsCid name old new → OnOk r (qs ≡ ps ++ (subtree_piece n name ∷ []))
    → AreHeld old ps → OnOk r (AreHeld new qs)
one_held_if (Ok x) old new n name ps qs adds is h = one_held old new n name ps qs adds is h
one_held_if (Err e) old new n name ps qs adds is h = tt

pub none_held : (lost : CidSet) (ps : List PieceParts) → members lost ≡ [] → AreHeld lost ps
none_held lost ps none q m = absurd (subst (λ xs. Among q xs) none m)

-- ---- one link

pub lone_opened : (stored : Stored) (n above : ℕ) (name : CidParts) → above ≡ suc n → stored name ≡ None → OpensBelow stored above name (subtree_piece n name ∷ [])
lone_opened stored n above name is none = subst (λ k. OpensBelow stored k name (subtree_piece n name ∷ [])) (sym is) (inl (none, refl))

pub node_opened : (stored : Stored) (n above : ℕ) (name : CidParts) (p : NodeParts) (more : List PieceParts) → above ≡ suc n → IsNodeAt stored name p → OpensNode (OpensBelow stored n) n p more
    → OpensBelow stored above name more
node_opened stored n above name p more is at opened = subst (λ k. OpensBelow stored k name more) (sym is) (inr (p, at, opened))

pub link_opened : {E : Type 0} (r : Result (Unit {0}) E) (stored : Stored) (n above : ℕ) (link : Option CidParts) (name : CidParts) (p : NodeParts) (old new : List PieceParts) → link ≡ Some name → above ≡ suc n
    → IsNodeAt stored name p → OnOk r ((more : List PieceParts) × OpensNode (OpensBelow stored n) n p more × (new ≡ old ++ more))
    → OnOk r ((more : List PieceParts) × OpensLink (OpensBelow stored above) link more × (new ≡ old ++ more))
link_opened (Ok x) stored n above link name p old new is layer at (more, opened, all) =
    (more, subst (λ l. OpensLink (OpensBelow stored above) l more) (sym is) (node_opened stored n above name p more layer at opened), all)
link_opened (Err e) stored n above link name p old new is layer at h = tt

pub link_kept : {E : Type 0} (r : Result (Unit {0}) E) (stored : Stored) (n above : ℕ) (link : Option CidParts) (name : CidParts) (old new : List PieceParts) → link ≡ Some name → above ≡ suc n
    → stored name ≡ None → OnOk r (new ≡ old ++ (subtree_piece n name ∷ []))
    → OnOk r ((more : List PieceParts) × OpensLink (OpensBelow stored above) link more × (new ≡ old ++ more))
link_kept (Ok x) stored n above link name old new is layer none all =
    (subtree_piece n name ∷ [], subst (λ l. OpensLink (OpensBelow stored above) l (subtree_piece n name ∷ [])) (sym is) (lone_opened stored n above name layer none), all)
link_kept (Err e) stored n above link name old new is layer none h = tt

pub link_stops : (stored : Stored) (n above : ℕ) (before : List PieceParts) (link : Option CidParts) (name : CidParts) (e : UndoError) → link ≡ Some name → above ≡ suc n
    → StopsBelow stored (suc n) before name e → LinkStops (StopsBelow stored above) before link e
link_stops stored n above before link name e is layer stop =
    subst (λ l. LinkStops (StopsBelow stored above) before l e) (sym is) (subst (λ k. StopsBelow stored k before name e) (sym layer) stop)

pub name_stops : (stored : Stored) (n above : ℕ) (before : List PieceParts) (link : Option CidParts) (name : CidParts) (e : UndoError) → link ≡ Some name → above ≡ suc n → UnreadNode stored name e
    → LinkStops (StopsBelow stored above) before link e
name_stops stored n above before link name e is layer fault = link_stops stored n above before link name e is layer (inl fault)

pub empty_stops : (stored : Stored) (n above : ℕ) (before : List PieceParts) (link : Option CidParts) (name : CidParts) (p : NodeParts) → link ≡ Some name → above ≡ suc n → IsNodeAt stored name p → IsEmpty p
    → LinkStops (StopsBelow stored above) before link error.OtherTree
empty_stops stored n above before link name p is layer at none = link_stops stored n above before link name error.OtherTree is layer (inr (inr (p, at, inl (refl, none))))

pub no_layer_stops : (stored : Stored) (above : ℕ) (before : List PieceParts) (link : Option CidParts) (name : CidParts) → link ≡ Some name → above ≡ 0 → LinkStops (StopsBelow stored above) before link error.OtherTree
no_layer_stops stored above before link name is layer =
    subst (λ l. LinkStops (StopsBelow stored above) before l error.OtherTree) (sym is) (subst (λ k. StopsBelow stored k before name error.OtherTree) (sym layer) refl)

pub no_layer : (n : ℕ) → (1 ≤ n → ⊥) → n ≡ 0
no_layer zero h = refl
no_layer (suc n) h = absurd (h (omega arith))

pub kept_stops : {A : Type 0} (r : Result A UndoError) (stored : Stored) (n above : ℕ) (before : List PieceParts) (link : Option CidParts) (name : CidParts) → link ≡ Some name → above ≡ suc n → stored name ≡ None
    → IfErr r (λ e. (e ≡ error.OutOfMemory) ⊎ ((e ≡ error.OtherTree) × HoldsSubtree name before)) → IfErr r (λ e. (e ≡ error.OutOfMemory) ⊎ LinkStops (StopsBelow stored above) before link e)
kept_stops (Ok x) stored n above before link name is layer none h = tt
kept_stops (Err e) stored n above before link name is layer none (inl memory) = inl memory
kept_stops (Err e) stored n above before link name is layer none (inr h) = inr (link_stops stored n above before link name e is layer (inr (inl (h.0, none, h.1))))

pub node_stops : {A : Type 0} (r : Result A UndoError) (stored : Stored) (n above : ℕ) (before : List PieceParts) (link : Option CidParts) (name : CidParts) (p : NodeParts) → link ≡ Some name → above ≡ suc n
    → IsNodeAt stored name p → IfErr r (λ e. (e ≡ error.OutOfMemory) ⊎ NodeStops (OpensBelow stored n) (StopsBelow stored n) n before p e)
    → IfErr r (λ e. (e ≡ error.OutOfMemory) ⊎ LinkStops (StopsBelow stored above) before link e)
node_stops (Ok x) stored n above before link name p is layer at h = tt
node_stops (Err e) stored n above before link name p is layer at (inl memory) = inl memory
node_stops (Err e) stored n above before link name p is layer at (inr h) = inr (link_stops stored n above before link name e is layer (inr (inr (p, at, inr h))))

-- ---- the last key

last_by : (p : PieceParts) (ps : List PieceParts) (b : Bool) → is_some (last_key ps) ≡ b → last_key (p ∷ ps) ≡ (if b then last_key ps else p.key)
last_by p ps b h = ap (λ x. if x then last_key ps else p.key) h

key_last : (k : List ℕ) (p : PieceParts) (ps : List PieceParts) → last_key ps ≡ Some k → last_key (p ∷ ps) ≡ Some k
key_last k p ps h = last_by p ps true (ap is_some h) ∙ h

no_key_last : (p : PieceParts) (ps : List PieceParts) → p.key ≡ None → last_key (p ∷ ps) ≡ last_key ps
no_key_last p ps none = by (last_key ps) refl
  where
    by : (o : Option (List ℕ)) → last_key ps ≡ o → last_key (p ∷ ps) ≡ last_key ps
    by None is = last_by p ps false (ap is_some is) ∙ none ∙ sym is
    by (Some k) is = key_last k p ps is ∙ sym is

-- if the pieces after a place are subtrees, the last key is that of the piece at the place
pub last_found : (i : ℕ) (ps : List Piece) (d : Piece) (k : List ℕ) → i < length ps → get_or ps i d ≡ d → (piece_of d).key ≡ Some k → last_key (drop (suc i) (pieces ps)) ≡ None → last_key (pieces ps) ≡ Some k
last_found i [] d k lt is key none = absurd (omega (arith, lt))
last_found zero (p ∷ ps) d k lt is key none = last_by (piece_of p) (pieces ps) false (ap is_some none) ∙ ap (λ x. (piece_of x).key) is ∙ key
last_found (suc i) (p ∷ ps) d k lt is key none = key_last k (piece_of p) (pieces ps) (last_found i ps d k (omega (arith, lt)) is key none)

pub none_found : (i : ℕ) (ps : List Piece) (d : Piece) → i < length ps → get_or ps i d ≡ d → (piece_of d).key ≡ None → last_key (drop (suc i) (pieces ps)) ≡ None → last_key (drop i (pieces ps)) ≡ None
none_found i ps d lt is key none = ap last_key (piece_at i ps d lt is) ∙ no_key_last (piece_of d) (drop (suc i) (pieces ps)) key ∙ none

pub none_after_all : (ps : List Piece) → last_key (drop (length ps) (pieces ps)) ≡ None
none_after_all [] = refl
none_after_all (p ∷ ps) = none_after_all ps

pub no_rows_left : (rows : List Row) (i : ℕ) → length rows ≤ i → map row_told (drop i rows) ≡ []
no_rows_left [] zero le = refl
no_rows_left [] (suc i) le = refl
no_rows_left (r ∷ rows) zero le = absurd (omega (arith, le))
no_rows_left (r ∷ rows) (suc i) le = no_rows_left rows i (omega (arith, le))

-- ---- the tree

pub tree_opened : (stored : Stored) (root : CidParts) (n : ℕ) (p : NodeParts) (old new : List PieceParts) → IsNodeAt stored root p → n ≡ first_layer p.rows → old ≡ []
    → (more : List PieceParts) × OpensNode (OpensBelow stored n) n p more × (new ≡ old ++ more) → OpensTree stored root new
tree_opened stored root n p old new at layer none (more, opened, all) =
    let whole : new ≡ more = all ∙ ap (λ x. x ++ more) none in
    (p, at, subst (λ m. OpensNode (OpensBelow stored m) m p new) layer (subst (OpensNode (OpensBelow stored n) n p) (sym whole) opened))

pub tree_stops : (stored : Stored) (root : CidParts) (n : ℕ) (p : NodeParts) (old : List PieceParts) (e : UndoError) → IsNodeAt stored root p → n ≡ first_layer p.rows → old ≡ []
    → (e ≡ error.OutOfMemory) ⊎ NodeStops (OpensBelow stored n) (StopsBelow stored n) n old p e → TreeFault stored root e
tree_stops stored root n p old e at layer none (inl memory) = inr (inr (p, at, inl memory))
tree_stops stored root n p old e at layer none (inr stop) =
    inr (inr (p, at, inr (subst (λ m. NodeStops (OpensBelow stored m) (StopsBelow stored m) m [] p e) layer (subst (λ x. NodeStops (OpensBelow stored n) (StopsBelow stored n) n x p e) none stop))))
