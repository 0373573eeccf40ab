-- The blocks that links lead to within a store, and the file of them.
use Rattle.std.proofs.Common.{◌≡◌, inr, ℕ, List, [], ◌∷◌, Bool, false, refl, sym, ap, subst, Option, None, Some, is_some, Err, Vec, Global, BTreeMap}
use Rattle.serde_ipld_dagcbor.specs.Cid.{CidParts, cid_bytes}
use Rattle.serde_ipld_dagcbor.specs.Written.{Written, WroteAll, Stops}
use Rattle.serde_ipld_dagcbor.specs.EncodeError.{EncodeError}
use Rattle.serde_ipld_dagcbor.specs.EncodeError.TheVariants as unwritten
use Rattle.files_car.specs.Writers.{UnsentWithoutMemory}
use Rattle.files_car.specs.Car.{car_bytes, IsCar}
use Rattle.ipld_links.specs.Reaching.{stored_in, ListsReachable}
use Rattle.files_car.specs.Reached.{sections_at}
use Rattle.ipld_links.proofs.Reaching.{none_found}
use Rattle.dagcbor_blocks.specs.Blocks.{Held}
use Rattle.dagcbor_blocks.specs.Reaching.{stored, MayLead, IsNotHeld, tree_bytes, OfReachable, TreeUnwritten}
use Rattle.dagcbor_blocks.specs.declared.tree_error.WriteTreeError.TheVariants as trees
use Rattle.dagcbor_blocks.proofs.Keeping.{shown, block_at_shown}

-- the map stores the blocks of the store
pub same_stored : (blocks : BTreeMap CidParts (Vec ℕ Global)) → stored_in blocks ≡ stored (shown blocks.entries)
same_stored blocks = λ i name. sym (block_at_shown name blocks.entries) i

pub reachable_held : (blocks : BTreeMap CidParts (Vec ℕ Global)) (root : CidParts) (names : List CidParts) → ListsReachable (stored_in blocks) root names → ListsReachable (stored (shown blocks.entries)) root names
reachable_held blocks root names h = subst (λ s. ListsReachable s root names) (same_stored blocks) h

pub none_reachable : (blocks : Held) (root : CidParts) → IsNotHeld blocks root → ListsReachable (stored blocks) root []
none_reachable blocks root h = none_found (stored blocks) root (nothing (stored blocks root) h.0, h.1)
  where
    nothing : (o : Option (List ℕ)) → is_some o ≡ false → o ≡ None
    nothing None e = refl
    nothing (Some x) e = absurd (cc e)

-- ---- the file

module _ (map : BTreeMap CidParts (Vec ℕ Global)) (root : CidParts) (leads : MayLead (shown map.entries) root) (names : List CidParts) (listed : ListsReachable (stored (shown map.entries)) root names) where
  abbrev sent : List ℕ
  sent = car_bytes (cid_bytes root ∷ []) (sections_at (stored_in map) names)

  same_sent : sent ≡ tree_bytes (shown map.entries) root names
  same_sent = ap (λ s. car_bytes (cid_bytes root ∷ []) (sections_at s names)) (same_stored map)

  pub tree_written : (old new : Written) → WroteAll (Some sent) old new → IsCar sent (cid_bytes root ∷ []) (sections_at (stored_in map) names)
      → OfReachable (shown map.entries) root (λ qs. IsCar (tree_bytes (shown map.entries) root qs) (cid_bytes root ∷ []) (sections_at (stored (shown map.entries)) qs) × WroteAll (Some (tree_bytes (shown map.entries) root qs)) old new)
  tree_written old new wrote car = (leads, (names, listed, (subst (λ s. IsCar (car_bytes (cid_bytes root ∷ []) (sections_at s names)) (cid_bytes root ∷ []) (sections_at s names)) (same_stored map) car, subst (λ b. WroteAll (Some b) old new) same_sent wrote)))

  tree_stopped : {E : Type 0} (old new : Written) (e : EncodeError E) → Stops (Some sent) old new e → OfReachable (shown map.entries) root (λ qs. Stops (Some (tree_bytes (shown map.entries) root qs)) old new e)
  tree_stopped old new e stops = (leads, (names, listed, subst (λ b. Stops (Some b) old new e) same_sent stops))

  pub tree_faulted : {E : Type 0} (takes_memory : Bool) (old new : Written) (e : E) → Stops (Some sent) old new (unwritten.Write e) → TreeUnwritten (shown map.entries) root takes_memory old (trees.Write e) new
  tree_faulted takes_memory old new e stops = tree_stopped old new (unwritten.Write e) stops

  pub tree_lacks : (T : Type 0) {E : Type 0} (takes_memory : Bool) (old new : Written) (e : EncodeError E) → ((f : E) → e ≡ unwritten.Write f → ⊥) → Stops (Some sent) old new e → UnsentWithoutMemory {T = T} takes_memory old (Err e) new → TreeUnwritten {E = E} (shown map.entries) root takes_memory old trees.OutOfMemory new
  tree_lacks T {E} takes_memory old new unwritten.OutOfMemory other stops unsent = (unsent, inr (tree_stopped {E = E} old new unwritten.OutOfMemory stops))
  tree_lacks T takes_memory old new (unwritten.Write f) other stops unsent = absurd (other f refl)
  tree_lacks T takes_memory old new (unwritten.Msg m) other stops unsent = absurd (cc stops.0)
