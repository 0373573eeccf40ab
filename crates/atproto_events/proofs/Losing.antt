-- A node that is reported as missing is not stored.
use Rattle.std.proofs.Common.{◌≡◌, inl, inr, ℕ, zero, suc, List, [], ◌∷◌, ◌++◌, Option, None, Some, refl, sym, subst}
use Rattle.std.specs.List.{AllByRecursion}
use Rattle.ipld_tree.specs.Cid.{CidParts}
use Rattle.ipld_links.specs.Reaching.{Stored}
use Rattle.atproto_mst.specs.Nodes.{NodeRow, NodeParts, key_of_row}
use Rattle.atproto_mst.specs.Changes.{Changed}
use Rattle.atproto_mst.specs.InLayers.{first_layer}
use Rattle.atproto_events.specs.Pieces.{PieceParts, subtree_piece, OpensLink, OpensRows, OpensNode, OpensBelow, OpensTree}
use Rattle.atproto_events.specs.Opening.{LinkStops, RowsStop, NodeStops, StopsBelow, TreeFault}
use Rattle.atproto_events.specs.Undone.{with_piece, StepsBack, StepsBackAll}
use Rattle.atproto_events.specs.Naming.{RootFault}
use Rattle.atproto_events.specs.Laws.{MissingIsLost}
use Rattle.atproto_events.specs.declared.error.UndoError.{UndoError}
use Rattle.atproto_events.specs.declared.error.UndoError.TheVariants as error

-- subtrees that were not opened are not stored
abbrev AreLost : Stored → List PieceParts → Type 0
AreLost stored ps = AllByRecursion (λ p. p.key ≡ None → stored p.cid ≡ None) ps

lost_apart : (stored : Stored) (xs ys : List PieceParts) → AreLost stored (xs ++ ys) → AreLost stored xs × AreLost stored ys
lost_apart stored [] ys h = (tt, h)
lost_apart stored (x ∷ xs) ys h = let more = lost_apart stored xs ys h.1 in ((h.0, more.0), more.1)

lost_joined : (stored : Stored) (xs ys : List PieceParts) → AreLost stored xs → AreLost stored ys → AreLost stored (xs ++ ys)
lost_joined stored [] ys h k = k
lost_joined stored (x ∷ xs) ys h k = (h.0, lost_joined stored xs ys h.1 k)

lost_there : (stored : Stored) (front : List PieceParts) (n : ℕ) (name : CidParts) (rest ps : List PieceParts) → ps ≡ front ++ (subtree_piece n name ∷ rest) → AreLost stored ps → stored name ≡ None
lost_there stored front n name rest ps is h = (lost_apart stored front (subtree_piece n name ∷ rest) (subst (AreLost stored) is h)).1.0 refl

-- ---- a tree that is opened

module _ (stored : Stored) (F : CidParts → List PieceParts → Type 0) (f : (name : CidParts) (ps : List PieceParts) → F name ps → AreLost stored ps) where
  link_lost : (l : Option CidParts) (ps : List PieceParts) → OpensLink F l ps → AreLost stored ps
  link_lost None ps o = subst (AreLost stored) (sym o) tt
  link_lost (Some name) ps o = f name ps o

  rows_lost : (n : ℕ) (previous : List ℕ) (rs : List NodeRow) (ps : List PieceParts) → OpensRows F n previous rs ps → AreLost stored ps
  rows_lost n previous [] ps o = subst (AreLost stored) (sym o) tt
  rows_lost n previous (r ∷ rs) ps (below, more, link, rows, all, layer) =
      subst (AreLost stored) (sym all) (λ none. absurd (cc none), lost_joined stored below more (link_lost r.after below link) (rows_lost n (key_of_row previous r) rs more rows))

  node_lost : (n : ℕ) (p : NodeParts) (ps : List PieceParts) → OpensNode F n p ps → AreLost stored ps
  node_lost n p ps (below, more, link, rows, all) =
      subst (AreLost stored) (sym all) (lost_joined stored below more (link_lost p.left below link) (rows_lost n [] p.rows more rows))

below_lost : (stored : Stored) (n : ℕ) (name : CidParts) (ps : List PieceParts) → OpensBelow stored n name ps → AreLost stored ps
below_lost stored zero name ps o = absurd o
below_lost stored (suc n) name ps (inl lone) = subst (AreLost stored) (sym lone.1) (λ none. lone.0, tt)
below_lost stored (suc n) name ps (inr (p, at, opened)) = node_lost stored (OpensBelow stored n) (below_lost stored n) n p ps opened

tree_lost : (stored : Stored) (root : CidParts) (ps : List PieceParts) → OpensTree stored root ps → AreLost stored ps
tree_lost stored root ps (p, at, opened) = node_lost stored (OpensBelow stored (first_layer p.rows)) (below_lost stored (first_layer p.rows)) (first_layer p.rows) p ps opened

-- ---- changes undone

lost_after : (stored : Stored) (key : List ℕ) (value : Option CidParts) (ps : List PieceParts) → AreLost stored (with_piece key value ps) → AreLost stored ps
lost_after stored key None ps h = h
lost_after stored key (Some v) ps h = h.1

lost_with : (stored : Stored) (key : List ℕ) (value : Option CidParts) (ps : List PieceParts) → AreLost stored ps → AreLost stored (with_piece key value ps)
lost_with stored key None ps h = h
lost_with stored key (Some v) ps h = (λ none. absurd (cc none), h)

step_lost : (stored : Stored) (c : Changed) (old new : List PieceParts) → StepsBack c old new → AreLost stored old → AreLost stored new
step_lost stored c old new s h =
    let parts = lost_apart stored s.front (with_piece c.0 c.1.1 s.rest) (subst (AreLost stored) s.was h) in
    subst (AreLost stored) (sym s.is) (lost_joined stored s.front (with_piece c.0 c.1.0 s.rest) parts.0 (lost_with stored c.0 c.1.0 s.rest (lost_after stored c.0 c.1.1 s.rest parts.1)))

steps_lost : (stored : Stored) (cs : List Changed) (old new : List PieceParts) → StepsBackAll cs old new → AreLost stored old → AreLost stored new
steps_lost stored [] old new s h = subst (AreLost stored) (sym s) h
steps_lost stored (c ∷ cs) old new (between, all, one) h = step_lost stored c between new one (steps_lost stored cs old between all h)

-- ---- faults

module _ (F : CidParts → List PieceParts → Type 0) (S : List PieceParts → CidParts → UndoError → Type 0) (name : CidParts) (never : (before : List PieceParts) (link : CidParts) → S before link (error.MissingNode name) → ⊥) where
  not_link : (before : List PieceParts) (l : Option CidParts) → LinkStops S before l (error.MissingNode name) → ⊥
  not_link before None h = h
  not_link before (Some link) h = never before link h

  not_rows : (n : ℕ) (before : List PieceParts) (previous : List ℕ) (rs : List NodeRow) → RowsStop F S n before previous rs (error.MissingNode name) → ⊥
  not_rows n before previous [] h = h
  not_rows n before previous (r ∷ rs) (inl h) = cc h.0
  not_rows n before previous (r ∷ rs) (inr (inl h)) = not_link (before ++ (record { layer = n; key = Some (key_of_row previous r); cid = r.value } ∷ [])) r.after h
  not_rows n before previous (r ∷ rs) (inr (inr (below, link, h))) =
      not_rows n (before ++ (record { layer = n; key = Some (key_of_row previous r); cid = r.value } ∷ below)) (key_of_row previous r) rs h

  not_node : (n : ℕ) (before : List PieceParts) (p : NodeParts) → NodeStops F S n before p (error.MissingNode name) → ⊥
  not_node n before p (inl h) = not_link before p.left h
  not_node n before p (inr (below, link, h)) = not_rows n (before ++ below) [] p.rows h

not_below : (stored : Stored) (n : ℕ) (name : CidParts) (before : List PieceParts) (link : CidParts) → StopsBelow stored n before link (error.MissingNode name) → ⊥
not_below stored zero name before link h = cc h
not_below stored (suc n) name before link (inl h) = h
not_below stored (suc n) name before link (inr (inl h)) = cc h.0
not_below stored (suc n) name before link (inr (inr (p, at, inl h))) = cc h.0
not_below stored (suc n) name before link (inr (inr (p, at, inr h))) = not_node (OpensBelow stored n) (StopsBelow stored n) name (not_below stored n name) n before p h

same_missing : (name other : CidParts) → error.MissingNode name ≡ error.MissingNode other → other ≡ name
same_missing name other h = cc h

root_lost : (stored : Stored) (root name : CidParts) → TreeFault stored root (error.MissingNode name) → stored name ≡ None
root_lost stored root name (inl h) = subst (λ x. stored x ≡ None) (same_missing name root h.0) h.1
root_lost stored root name (inr (inl h)) = absurd h
root_lost stored root name (inr (inr (p, at, inl h))) = absurd (cc h)
root_lost stored root name (inr (inr (p, at, inr h))) =
    absurd (not_node (OpensBelow stored (first_layer p.rows)) (StopsBelow stored (first_layer p.rows)) name (not_below stored (first_layer p.rows) name) (first_layer p.rows) [] p h)

unnamed_lost : (stored : Stored) (name : CidParts) (ps : List PieceParts) → AreLost stored ps → RootFault ps (error.MissingNode name) → stored name ≡ None
unnamed_lost stored name ps lost (inl h) = lost_there stored h.front h.layer name h.rest ps h.is lost
unnamed_lost stored name ps lost (inr (n, is)) = lost_there stored [] n name [] ps is lost

pub missing_is_lost : MissingIsLost
missing_is_lost stored root cs name (inl h) = root_lost stored root name h
missing_is_lost stored root cs name (inr (ps, opened, inl h)) =
    let lost = steps_lost stored h.following ps h.now h.undone (tree_lost stored root ps opened) in
    lost_there stored h.fault.front h.fault.layer name h.fault.rest h.now h.fault.is lost
missing_is_lost stored root cs name (inr (ps, opened, inr (qs, steps, h))) =
    unnamed_lost stored name qs (steps_lost stored cs ps qs steps (tree_lost stored root ps opened)) h
