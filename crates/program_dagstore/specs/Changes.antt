-- What is written of blocks that are stored and removed.
use Rattle.std.specs.Prelude.{◌≡◌, ◌≢◌, ◌↔◌, ◌⊎◌, ℕ, ◌+◌, List, [], ◌∷◌, ◌++◌, length, flat_map, Bool, true, false, IsTrue, Option, Result, Ok, Err}
use Rattle.std.specs.Io.KnownBytes.{Appends}
use Rattle.sha2.specs.Sha256.{sha256}
use Rattle.sqlite_trees.specs.Tree.{Trees}
use Rattle.sqlite_trees.specs.View.{View, IsClean}
use Rattle.sqlite_trees.specs.declared.store.Store.{Ghosts}
use Rattle.ipld_tree.specs.Cid.{CidParts, cid_parts}
use Rattle.text_cid.specs.Texts.{cid_text}
use Rattle.dagcbor_items.specs.Walks.{forms}
use Rattle.files_car.specs.Car.{Section}
use Rattle.ipld_links.specs.Sets.{Among}
use Rattle.ipld_links.specs.Sound.{IsSound, IsUnsound}
use Rattle.program_parts.specs.Lines.{line, TextFails}
use Rattle.ipld_paths.specs.Resolving.{AreOnceEach}
use Rattle.store_on_disk.specs.RootRows.{LeavesOut}
use Rattle.store_on_disk.specs.Stored.{IsPut, PutRefused, ListsName, FailsByStore}
use Rattle.store_on_disk.specs.Collecting.{HoldsThose, IsCollected, CollectRefused}
use Rattle.store_on_disk.specs.declared.error.StoreRefusal.{StoreRefusal}
use Rattle.store_on_disk.specs.declared.error.StoreRefusal.TheVariants as refusal
use Rattle.program_dagstore.specs.Lines.{removed_line}
use Rattle.program_dagstore.specs.declared.taken.Taken.{Taken}
use Rattle.program_dagstore.specs.declared.fault.Fault.{Fault}
use Rattle.program_dagstore.specs.declared.fault.Fault.TheVariants as fault

-- ---- put

-- why a block does not belong under the name
abbrev pub IsUnfit : Section → StoreRefusal → Type 0
IsUnfit s (refusal.Unsound e) = IsUnsound s e
IsUnfit s _ = ⊥

-- the name of a block: a CID of version 1, of this codec, by its SHA-256
abbrev pub name_as : ℕ → List ℕ → CidParts
name_as codec b = cid_parts 1 codec 0x12 (sha256 b)

-- the block is sound under the name, is stored under it, and all is committed
abbrev pub IsPutWell : {S : Type 0} → Ghosts S → CidParts → List ℕ → S → S → Type 0
IsPutWell g name b old new = IsSound (name, b)
    × (IsClean (g.view new) → IsPut (g.view old) (g.view new) name b)

-- the line of a name
abbrev pub cid_line : CidParts → List ℕ
cid_line name = line (cid_text name)

-- The block is stored, and the line of its name was written; or the store refused, and nothing was
-- written; or the block is stored, and the line is not all written.
abbrev pub SaysPut : {S : Type 0} → Ghosts S → CidParts → List ℕ
    → S → Option (List ℕ) → Result Bool Fault → S → Option (List ℕ) → Type 0
SaysPut g name b old before (Ok well) new after = IsPutWell g name b old new × (well ≡ true)
    × Appends before after (cid_line name)
SaysPut g name b old before (Err (fault.Store told)) new after = PutRefused g (name, b) old new told
    × (after ≡ before)
SaysPut g name b old before (Err (fault.Tool e)) new after = IsPutWell g name b old new
    × TextFails (cid_line name) before e after

-- ---- gc

-- Just what links lead to is kept, this many names were removed, and that line was written; or the
-- store refused, and nothing was written; or just that is kept, and the line is not all written.
abbrev pub SaysCollected : {S : Type 0} → Ghosts S → List CidParts
    → S → Option (List ℕ) → Result Bool Fault → S → Option (List ℕ) → Type 0
SaysCollected g roots old before (Ok well) new after = (count : ℕ)
    × (IsClean (g.view new) → IsCollected (g.view old) (g.view new) roots count) × (well ≡ true)
    × Appends before after (removed_line count)
SaysCollected g roots old before (Err (fault.Store why)) new after =
    CollectRefused g roots old new why × (after ≡ before)
SaysCollected g roots old before (Err (fault.Tool e)) new after = (count : ℕ)
    × (IsClean (g.view new) → IsCollected (g.view old) (g.view new) roots count)
    × TextFails (removed_line count) before e after

-- ---- changes

-- the trees are so changed, and what was committed is the same
pub record Changes (Does : Trees → Trees → Type 0) (old new : View) : Type 0 where
  pub trees : Does old.trees new.trees
  pub committed : new.committed ≡ old.committed
  pub is_open : new.is_open ≡ old.is_open
  pub broken : new.is_broken ≡ old.is_broken

-- the trees are so changed, and all is committed
pub record Commits (Does : Trees → Trees → Type 0) (old new : View) : Type 0 where
  pub trees : Does old.trees new.trees
  pub committed : new.committed ≡ new.trees
  pub is_open : IsTrue new.is_open

-- ---- names that are to be removed

-- the name is counted among those that were there, or appended to the others
abbrev pub Notes : CidParts → Bool → Taken → Taken → Type 0
Notes name true old new = (new.count ≡ old.count + 1) × (new.others.items ≡ old.others.items)
Notes name false old new = (new.count ≡ old.count) × (new.others.items ≡ old.others.items ++ name ∷ [])

-- this many of the names are so, and the others are those that are not, in their order
pub record Splits (IsSo : CidParts → Type 0) (names : List CidParts) (taken : Taken) : Type 0 where
  pub others : LeavesOut IsSo names taken.others.items
  pub count : taken.count + length taken.others.items ≡ length names

-- it splits the names so, each counted once
abbrev pub SplitsOnce : (CidParts → Type 0) → List CidParts → Taken → Type 0
SplitsOnce IsSo names taken = (once : List CidParts) × AreOnceEach names once × Splits IsSo once taken

-- the line of a name, with these words after it
abbrev pub line_after : List ℕ → CidParts → List ℕ
line_after words name = line (cid_text name ++ words)

-- The line of how many were there was written, and a line with these words was reported for each of
-- the others; all is well if there are no others. Or not all of these lines are written.
abbrev pub SaysTaken : List ℕ → Taken → Option (List ℕ) → Option (List ℕ)
    → Result Bool Fault → Option (List ℕ) → Option (List ℕ) → Type 0
SaysTaken words taken before heard (Ok well) after told = (IsTrue well ↔ (taken.others.items ≡ []))
    × Appends before after (removed_line taken.count)
    × Appends heard told (flat_map (line_after words) taken.others.items)
SaysTaken words taken before heard (Err (fault.Store why)) after told = ⊥
SaysTaken words taken before heard (Err (fault.Tool e)) after told =
    (TextFails (removed_line taken.count) before e after × (told ≡ heard))
    ⊎ (Appends before after (removed_line taken.count) × (taken.others.items ≢ [])
    × TextFails (flat_map (line_after words) taken.others.items) heard e told)

-- The names are removed in this way, and it is written how many were there, and with these words
-- which were not; or the store failed, and nothing was written.
abbrev pub SaysTakenOut : {S : Type 0} → Ghosts S → (S → S → Taken → Type 0) → List ℕ
    → S → Option (List ℕ) → Option (List ℕ) → Result Bool Fault
    → S → Option (List ℕ) → Option (List ℕ) → Type 0
SaysTakenOut g TakesOut words old before heard (Err (fault.Store why)) new after told =
    FailsByStore g ⊥ old new why × (after ≡ before) × (told ≡ heard)
SaysTakenOut g TakesOut words old before heard ended new after told = (taken : Taken)
    × TakesOut old new taken × SaysTaken words taken before heard ended after told

-- ---- remove

-- the stored blocks are those that there were, without these names
abbrev pub ListsOthers : List CidParts → Trees → Trees → Type 0
ListsOthers names = HoldsThose (λ q. ¬ Among q (forms names))

-- unless a wrong answer of the disk was taken as true, these names are removed, and all is
-- committed; the result says which of the names, each counted once, were listed
abbrev pub Removes : {S : Type 0} → Ghosts S → List CidParts → S → S → Taken → Type 0
Removes g names old new taken = IsClean (g.view new)
    → Commits (ListsOthers names) (g.view old) (g.view new)
    × SplitsOnce (ListsName (g.view old)) names taken
