-- The blocks on the way of a path, read from a store.
use Rattle.std.specs.Prelude.{◌≡◌, ℕ, zero, suc, List, Bool, true, false, Some}
use Rattle.sqlite_trees.specs.View.{View, IsClean}
use Rattle.sqlite_trees.specs.declared.store.Store.{Ghosts}
use Rattle.ipld_tree.specs.Cid.{CidParts}
use Rattle.ipld_links.specs.Reaching.{Stored}
use Rattle.ipld_paths.specs.Resolving.{LeadsOn, AreOnTheWay}
use Rattle.ipld_paths.specs.Laws.{AgreeOn}
use Rattle.program_parts.specs.Paths.{IsAnswerOf}
use Rattle.program_parts.specs.declared.at.Asked.{Asked}
use Rattle.program_parts.specs.declared.at.Asked.TheVariants as asks
use Rattle.store_on_disk.specs.Stored.{StaysSame, FindsSo, IsDamaged, FailsByStore}
use Rattle.store_on_disk.specs.Trees.{OfStored}
use Rattle.store_on_disk.specs.declared.error.StoreRefusal.TheVariants as refusal
use Rattle.program_dagstore.specs.declared.fault.Fault.{Fault}
use Rattle.program_dagstore.specs.declared.fault.Fault.TheVariants as fault

-- each block held is stored
abbrev pub IsPartOf : Stored → Stored → Type 0
IsPartOf held stored = (q : CidParts) (b : List ℕ) → held q ≡ Some b → stored q ≡ Some b

-- the block stored under the name is held too, besides those held before
abbrev pub HoldsNameToo : View → CidParts → Stored → Stored → Type 0
HoldsNameToo v name old new = OfStored v (λ stored. IsPartOf old stored → IsPartOf new stored
    × (new name ≡ stored name) × ((q : CidParts) → old q ≡ stored q → new q ≡ stored q))

-- the blocks held are those that are stored under the names on the path's way
abbrev pub HoldsWay : View → CidParts → List (List ℕ) → Stored → Type 0
HoldsWay v root path held = OfStored v (λ stored. (names : List CidParts)
    × AreOnTheWay stored root path names × AgreeOn names stored held)

-- what is asked of a path: the bytes of the item, or its data
abbrev pub asked_of : Bool → Asked
asked_of true = asks.Bytes
asked_of false = asks.Data

-- What `dagcar at` writes of the stored blocks. Even if a wrong answer of the disk was taken as
-- true, it is what it writes of some blocks, of which each on the way matches its name.
abbrev pub IsAnswerIn : Bool → CidParts → List (List ℕ)
    → View → View → Bool → List ℕ → List ℕ → Type 0
IsAnswerIn is_raw root path old new well out told = (IsClean new → OfStored old (λ stored.
    IsAnswerOf (asked_of is_raw) root path stored well out told))
    × ((held : Stored) × IsAnswerOf (asked_of is_raw) root path held well out told)

-- over this many links the path comes to this block, with these segments left
abbrev pub ComesTo : ℕ → Stored → CidParts → List (List ℕ) → CidParts → List (List ℕ) → Type 0
ComesTo zero stored root path name left = (root ≡ name) × (path ≡ left)
ComesTo (suc n) stored root path name left = (next : CidParts) × (more : List (List ℕ))
    × LeadsOn stored root path next more × ComesTo n stored next more name left

-- the path comes to the name
abbrev pub IsComeTo : View → CidParts → List (List ℕ) → CidParts → Type 0
IsComeTo v root path name = OfStored v (λ stored.
    (n : ℕ) × (left : List (List ℕ)) × ComesTo n stored root path name left)

-- the block stored under a name to which the path comes is damaged, or the store failed; or the
-- store is as it was, and memory ran out
abbrev pub WayFails : {S : Type 0} → Ghosts S → CidParts → List (List ℕ) → S → S → Fault → Type 0
WayFails g root path old new (fault.Store (refusal.Damaged name)) =
    FindsSo g old new (λ v. IsDamaged v name × IsComeTo v root path name)
WayFails g root path old new (fault.Store told) = FailsByStore g ⊥ old new told
WayFails g root path old new (fault.Tool e) = StaysSame g old new
