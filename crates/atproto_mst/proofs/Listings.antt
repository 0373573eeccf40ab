-- The entries of a stored tree, and why it is refused.
use Rattle.std.proofs.Common.{◌≡◌, ◌⊎◌, inl, inr, ℕ, zero, suc, Bool, true, false, List, [], ◌∷◌, ◌++◌, refl, sym, ap, ◌∙◌, subst, arith, Option, Some, None}
use Rattle.std.proofs.lemmas.List.{length-map}
use Rattle.std.specs.Prelude.{Decides}
use Rattle.std.specs.List.{AllByRecursion}
use Rattle.ipld_tree.specs.Cid.{CidParts, AreCidParts}
use Rattle.ipld_links.specs.Reaching.{Stored}
use Rattle.atproto_mst.specs.Keys.{Entry, HaveCids, AreMstEntries}
use Rattle.atproto_mst.specs.Entries.{entry_of, entries, IsMst}
use Rattle.atproto_mst.specs.Nodes.{NodeRow, NodeParts, IsCidIfAny, IsNodeAt, key_of_row}
use Rattle.atproto_mst.specs.Walks.{WalksLink, WalksRows, WalksNode, WalksTree, most_layers}
use Rattle.atproto_mst.specs.Stops.{IsStoredNamed, NodeFault, ComeAfter, StopsInNode, StopsWalk, MstRefused, OneReason, last_entry_key}
use Rattle.atproto_mst.specs.InLayers.{IsOfLayer, IsRightBelow, first_layer}
use Rattle.atproto_mst.specs.Gathering.{GathersEntries}
use Rattle.atproto_mst.specs.declared.error.MstError.{MstError}
use Rattle.atproto_mst.specs.declared.error.MstError.TheVariants as error
use Rattle.atproto_mst.proofs.Agreeing.{one_walk}
use Rattle.atproto_mst.proofs.Canonical.{mst_walked}
use Rattle.atproto_mst.proofs.Gathering.{Found, stops_named}
use Rattle.atproto_mst.proofs.Layered.{root_over, IsRoot}
use Rattle.atproto_mst.proofs.Rising.{all_after}
use Rattle.atproto_mst.proofs.Standing.{root_stands}
use Rattle.atproto_mst.proofs.Stopping.{stops_never_walks, one_fault}

-- ---- the values of what is walked are CIDs

abbrev GivesCids : (CidParts → List Entry → Type 0) → Type 0
GivesCids W = (name : CidParts) (es : List Entry) → W name es → HaveCids es

cids_joined : (es fs : List Entry) → HaveCids es → HaveCids fs → HaveCids (es ++ fs)
cids_joined [] fs h k = k
cids_joined (e ∷ es) fs h k = (h.0, cids_joined es fs h.1 k)

cids_after : (W : CidParts → List Entry → Type 0) → GivesCids W → (l : Option CidParts) (es : List Entry) → WalksLink W l es → HaveCids es
cids_after W give None es w = subst HaveCids (sym w) tt
cids_after W give (Some name) es w = give name es w.0

cids_of_rows : (W : CidParts → List Entry → Type 0) → GivesCids W → (rows : List NodeRow) → AllByRecursion (λ r. AreCidParts r.value × IsCidIfAny r.after) rows
    → (previous : List ℕ) (es : List Entry) → WalksRows W previous rows es → HaveCids es
cids_of_rows W give [] k previous es w = subst HaveCids (sym w) tt
cids_of_rows W give (r ∷ rs) k previous es (shares, (below, more, link, rows, is)) =
    subst HaveCids (sym is) (k.0.0, cids_joined below more (cids_after W give r.after below link) (cids_of_rows W give rs k.1 (key_of_row previous r) more rows))

pub walk_cids : (stored : Stored) (m : ℕ) → GivesCids (WalksTree m stored)
walk_cids stored zero name es w = absurd w
walk_cids stored (suc m) name es (p, at, (below, more, link, rows, is)) =
    subst HaveCids (sym is) (cids_joined below more (cids_after (WalksTree m stored) (walk_cids stored m) p.left below link)
    (cids_of_rows (WalksTree m stored) (walk_cids stored m) p.rows at.node.rows [] more rows))

-- ---- why the root's tree is refused

refused_by_stop : (stored : Stored) (root : CidParts) (e : MstError) → IsStoredNamed stored root → StopsWalk most_layers stored [] root e → MstRefused stored root e
refused_by_stop stored root error.OutOfMemory named h = named
refused_by_stop stored root error.OtherTree named h = inl h
refused_by_stop stored root _ named h = h

refused_by_fault : (stored : Stored) (root : CidParts) (e : MstError) → NodeFault stored root e → MstRefused stored root e
refused_by_fault stored root error.OutOfMemory h = absurd h
refused_by_fault stored root error.OtherTree h = absurd h
refused_by_fault stored root _ h = inl h

-- ---- what is gathered of the root, after nothing

pub refused_by : (stored : Stored) (root : CidParts) (e : MstError) (p : NodeParts) → IsNodeAt stored root p → (e ≡ error.OutOfMemory) ⊎ StopsWalk most_layers stored [] root e → MstRefused stored root e
refused_by stored root e p at (inl m) = subst (MstRefused stored root) (sym m) (at.block, at.is, at.named)
refused_by stored root e p at (inr s) = refused_by_stop stored root e (at.block, at.is, at.named) s

pub no_root : (stored : Stored) (root : CidParts) (e : MstError) → ((e ≡ error.OutOfMemory) × IsStoredNamed stored root) ⊎ NodeFault stored root e → MstRefused stored root e
no_root stored root e (inl m) = subst (MstRefused stored root) (sym m.0) m.1
no_root stored root e (inr fault) = refused_by_fault stored root e fault

pub stops_for_memory : (stored : Stored) (root : CidParts) (e : MstError) → (e ≡ error.OutOfMemory) ⊎ StopsWalk most_layers stored [] root e → (es : List Entry) → IsMst stored root es → e ≡ error.OutOfMemory
stops_for_memory stored root e (inl m) es h = m
stops_for_memory stored root e (inr s) es h = absurd (stops_never_walks stored most_layers [] root e es s (mst_walked stored root es h) (all_after es h.valid.keys h.valid.rise))

-- the root of a stored tree is stored
pub stored_root : (stored : Stored) (root : CidParts) (es : List Entry) → IsMst stored root es → IsStoredNamed stored root
stored_root stored root es h = let w = mst_walked stored root es h in (w.1.block, w.1.is, w.1.named)

module _ (stored : Stored) (root : CidParts) (p : NodeParts) (at : IsNodeAt stored root p) (first : Found) (empty : first.items ≡ []) where
  -- the walk from the root stops
  pub stops_at_root : (e : MstError) → (e ≡ error.OutOfMemory) ⊎ StopsInNode (WalksTree 128 stored) (StopsWalk 128 stored) (last_entry_key [] (entries first.items)) p e → (e ≡ error.OutOfMemory) ⊎ StopsWalk most_layers stored [] root e
  stops_at_root e (inl m) = inl m
  stops_at_root e (inr s) = inr (stops_named stored root 128 most_layers p at refl [] e (subst (λ es. StopsInNode (WalksTree 128 stored) (StopsWalk 128 stored) (last_entry_key [] (entries es)) p e) empty s))

  module _ (found : Found) (gathered : GathersEntries (WalksNode (WalksTree 128 stored) p) first found) where
    found_is : entries found.items ≡ gathered.found
    found_is = gathered.all ∙ ap (λ es. entries es ++ gathered.found) empty

    walked : WalksNode (WalksTree 128 stored) p (entries found.items)
    walked = subst (WalksNode (WalksTree 128 stored) p) (sym found_is) gathered.walked

    walks_found : WalksTree most_layers stored root (entries found.items)
    walks_found = (p, at, walked)

    are_entries : AreMstEntries (entries found.items)
    are_entries =
        let order = subst (ComeAfter []) (sym found_is) (subst (λ es. ComeAfter (last_entry_key [] (entries es)) gathered.found) empty gathered.following) in record {
          keys = order.keys;
          rise = order.rise;
          values = walk_cids stored most_layers root (entries found.items) walks_found;
          count = omega (arith, found.ok.0, found.ok.1, found.small, length-map found.items entry_of);
        }

    module _ (layer : ℕ) (is : layer ≡ first_layer p.rows) (fits : Bool) (decided : Decides fits (IsOfLayer (IsRightBelow stored layer) layer p)) where
      is_root : fits ≡ true → IsRoot stored p
      is_root e = subst (λ n. IsOfLayer (IsRightBelow stored n) n p) is (decided.0 e)

      pub read_root : fits ≡ true → IsMst stored root (entries found.items)
      read_root e = let whole = root_over stored 128 root p (entries found.items) at (is_root e) walked in record { valid = are_entries; root_is = whole.0; all = whole.1 }

      pub other_root : fits ≡ false → (es : List Entry) → IsMst stored root es → ⊥
      other_root e es h =
          let yes = decided.1 (subst (λ n. IsOfLayer (IsRightBelow stored n) n p) (sym is) (root_stands stored root es p h at)) in absurd (cc (e, yes))

      pub refused_root : fits ≡ false → MstRefused stored root error.OtherTree
      refused_root e = inr (entries found.items, walks_found, are_entries, other_root e (entries found.items))

    pub found_root : (es : List Entry) → IsMst stored root es → entries found.items ≡ es
    found_root es h = one_walk stored most_layers most_layers root (entries found.items) es walks_found (mst_walked stored root es h)

-- ---- there is one reason, beside memory

other_or_stopped : (stored : Stored) (root : CidParts) (e : MstError) → StopsWalk most_layers stored [] root e → MstRefused stored root error.OtherTree → e ≡ error.OtherTree
other_or_stopped stored root e s (inl t) = one_fault stored most_layers [] root e error.OtherTree s t
other_or_stopped stored root e s (inr (es, w, valid, other)) = absurd (stops_never_walks stored most_layers [] root e es s w (all_after es valid.keys valid.rise))

pub one_reason : OneReason
one_reason stored root error.OutOfMemory f h k = inl refl
one_reason stored root error.OtherTree error.OutOfMemory h k = inr (inl refl)
one_reason stored root error.OtherTree error.OtherTree h k = inr (inr refl)
one_reason stored root error.OtherTree f h k = inr (inr (sym (other_or_stopped stored root f k h)))
one_reason stored root e error.OutOfMemory h k = inr (inl refl)
one_reason stored root e error.OtherTree h k = inr (inr (other_or_stopped stored root e h k))
one_reason stored root e f h k = inr (inr (one_fault stored most_layers [] root e f h k))
