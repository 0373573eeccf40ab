-- The blocks that links lead to within a store, and the CAR file of them.
use Rattle.std.specs.Prelude.{◌≡◌, ◌⊎◌, List, [], ◌∷◌, ℕ, Bool, true, false, Some, Result, MatchResult}
use Rattle.serde_ipld_dagcbor.specs.Cid.{CidParts, cid_bytes}
use Rattle.serde_ipld_dagcbor.specs.Written.{Written, WroteAll, Stops}
use Rattle.serde_ipld_dagcbor.specs.EncodeError.TheVariants as unwritten
use Rattle.ipld_links.specs.Names.{IsInline}
use Rattle.files_car.specs.Car.{car_bytes, IsCar}
use Rattle.ipld_links.specs.Reaching.{Stored, ListsReachable}
use Rattle.files_car.specs.Reached.{sections_at}
use Rattle.dagcbor_blocks.specs.Blocks.{Held, block_at}
use Rattle.dagcbor_blocks.specs.Bytes.{is_held}
use Rattle.dagcbor_blocks.specs.declared.tree_error.WriteTreeError.{WriteTreeError}
use Rattle.dagcbor_blocks.specs.declared.tree_error.WriteTreeError.TheVariants.{NotHeld, Write, OutOfMemory}

-- the bytes stored under each name
abbrev pub stored : Held → Stored
stored blocks name = block_at name blocks

-- a block is stored under the name, or the name is by the identity
abbrev pub MayLead : Held → CidParts → Type 0
MayLead blocks name = (is_held name blocks ≡ true) ⊎ IsInline name

-- no block is stored under the name, and it is not by the identity
abbrev pub IsNotHeld : Held → CidParts → Type 0
IsNotHeld blocks name = (is_held name blocks ≡ false) × ¬ IsInline name

-- ---- a CAR file of them

-- the file with this root, and the stored blocks with these names
abbrev pub tree_bytes : Held → CidParts → List CidParts → List ℕ
tree_bytes blocks root names = car_bytes (cid_bytes root ∷ []) (sections_at (stored blocks) names)

-- the root may lead somewhere, and `Holds` is true of a list of the names that links lead to
abbrev pub OfReachable : Held → CidParts → (List CidParts → Type 0) → Type 0
OfReachable blocks root Holds = MayLead blocks root
    × ((names : List CidParts) × ListsReachable (stored blocks) root names × Holds names)

-- why the file was not written as a whole: the root leads nowhere, and nothing was
-- sent; or the writer faulted after a beginning; or memory ran out, before
-- anything was sent if the writer takes no memory
abbrev pub TreeUnwritten : {E : Type 0} → Held → CidParts → Bool → Written → WriteTreeError E
    → Written → Type 0
TreeUnwritten blocks root takes_memory old NotHeld new = IsNotHeld blocks root × (new ≡ old)
TreeUnwritten blocks root takes_memory old (Write e) new = OfReachable blocks root
    (λ names. Stops (Some (tree_bytes blocks root names)) old new (unwritten.Write e))
TreeUnwritten {E} blocks root takes_memory old OutOfMemory new = (takes_memory ≡ false → new ≡ old)
    × ((MayLead blocks root × (new ≡ old)) ⊎ OfReachable blocks root
    (λ names. Stops {E = E} (Some (tree_bytes blocks root names)) old new unwritten.OutOfMemory))

-- The file of the root, and of the stored blocks that links lead to from there, is appended.
abbrev pub WritesHeldTree : {T E : Type 0} → Held → CidParts → Bool → Written
    → Result T (WriteTreeError E) → Written → Type 0
WritesHeldTree blocks root takes_memory old result new = MatchResult result
    (λ _. OfReachable blocks root (λ names.
    IsCar (tree_bytes blocks root names) (cid_bytes root ∷ []) (sections_at (stored blocks) names)
    × WroteAll (Some (tree_bytes blocks root names)) old new))
    (λ e. TreeUnwritten blocks root takes_memory old e new)
