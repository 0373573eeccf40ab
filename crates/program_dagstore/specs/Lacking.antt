-- What `check` writes of roots without a block, and of a store as a whole.
use Rattle.std.specs.Prelude.{◌≡◌, ◌↔◌, ◌⊎◌, List, [], ◌∷◌, ◌++◌, ℕ, Bool, ◌&&◌, IsTrue, Option, Result, Ok, Err, flat_map}
use Rattle.std.specs.Io.KnownBytes.{Appends}
use Rattle.sqlite_trees.specs.View.{View, IsClean}
use Rattle.ipld_tree.specs.Cid.{CidParts}
use Rattle.program_parts.specs.Lines.{missing_line}
use Rattle.store_on_disk.specs.RootRows.{LeavesOut}
use Rattle.store_on_disk.specs.Stored.{IsSame}
use Rattle.store_on_disk.specs.Roots.{HasRoots}
use Rattle.store_on_disk.specs.Collecting.{HasBlockAt}
use Rattle.program_dagstore.specs.Checks.{SaysCheck}
use Rattle.program_dagstore.specs.Said.{Breaks}
use Rattle.program_dagstore.specs.declared.fault.Fault.{Fault}

-- the names that have no block, in their order
abbrev pub LeavesStored : View → List CidParts → List CidParts → Type 0
LeavesStored v = LeavesOut (HasBlockAt v)

-- the name is appended if it has no block
abbrev pub AddsLacking : View → CidParts → List CidParts → List CidParts → Type 0
AddsLacking v name old new = (HasBlockAt v name × (new ≡ old))
    ⊎ ((¬ HasBlockAt v name) × (new ≡ old ++ name ∷ []))

-- the roots that have no block, in their order
abbrev pub ListsLacking : View → List CidParts → Type 0
ListsLacking v lacking = (names : List CidParts) × HasRoots v names × LeavesStored v names lacking

-- A line was written for each root that has no block; or the store failed, and nothing was written;
-- or the device did, and a prefix of the lines was written.
abbrev pub SaysLacking : View → Option (List ℕ) → Result Bool Fault → View → Option (List ℕ) → Type 0
SaysLacking old before (Ok well) new after = (lacking : List CidParts)
    × (IsClean new → ListsLacking old lacking) × (IsTrue well ↔ (lacking ≡ []))
    × Appends before after (flat_map missing_line lacking)
SaysLacking old before (Err e) new after =
    Breaks (λ text. (lacking : List CidParts) × (IsClean new → ListsLacking old lacking)
    × (text ≡ flat_map missing_line lacking)) before after e

-- The lines of each name and each missing link were written, and then one for each root that has no
-- block; all is well if both parts are. Or the output was cut short.
abbrev pub SaysStoreChecked : View → Option (List ℕ) → Result Bool Fault → View → Option (List ℕ)
    → Type 0
SaysStoreChecked old before (Ok well) new after = (mid : View) × (between : Option (List ℕ))
    × (links roots : Bool) × SaysCheck old before (Ok links) mid between
    × (IsClean mid → IsSame old mid) × (IsClean new → IsClean mid)
    × SaysLacking mid between (Ok roots) new after × (well ≡ (links && roots))
SaysStoreChecked old before (Err e) new after = SaysCheck old before (Err e) new after
    ⊎ ((mid : View) × (between : Option (List ℕ)) × (links : Bool)
    × SaysCheck old before (Ok links) mid between
    × (IsClean mid → IsSame old mid) × (IsClean new → IsClean mid)
    × SaysLacking mid between (Err e) new after)
