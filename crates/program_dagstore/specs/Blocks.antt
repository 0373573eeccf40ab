-- What is written of a store as a whole, and of one block in it.
use Rattle.std.specs.Prelude.{◌≡◌, ◌↔◌, ◌⊎◌, ℕ, List, [], length, Bool, true, false, IsTrue, Option, Result, Ok, Err, MatchResult}
use Rattle.std.specs.Io.KnownBytes.{Appends}
use Rattle.sqlite_trees.specs.View.{View, IsClean}
use Rattle.sqlite_trees.specs.declared.store.Store.{Ghosts}
use Rattle.ipld_tree.specs.Cid.{CidParts}
use Rattle.store_on_disk.specs.Rows.{name_tree}
use Rattle.store_on_disk.specs.Stored.{IsNamedBy, HoldsOnly, ListsName, GetRefused, StaysSame, FailsByStore}
use Rattle.program_dagstore.specs.Lines.{holds_line, no_block_line}
use Rattle.program_dagstore.specs.Said.{Breaks}
use Rattle.program_dagstore.specs.declared.fault.Fault.{Fault}
use Rattle.program_dagstore.specs.declared.fault.Fault.TheVariants as fault

-- ---- count

-- the line of how many names are listed
abbrev pub IsCountLine : View → View → List ℕ → Type 0
IsCountLine old new text = (count : ℕ) × (IsClean new → count ≡ length (old.trees name_tree))
    × (text ≡ holds_line count)

-- that line was written, or cut short
abbrev pub SaysCount : View → Option (List ℕ) → Result Bool Fault → View → Option (List ℕ) → Type 0
SaysCount old before result new after = MatchResult result
    (λ well. (well ≡ true)
    × ((text : List ℕ) × IsCountLine old new text × Appends before after text))
    (Breaks (IsCountLine old new) before after)

-- ---- get

-- what `get` writes: the bytes that are stored under the name, which match it; or no output, and a
-- line that says that nothing is listed under it
abbrev pub IsGotBlock : CidParts → View → View → Bool → List ℕ → List ℕ → Type 0
IsGotBlock name old new well out told = (IsNamedBy name out × (IsClean new → HoldsOnly old name out)
    × (well ≡ true) × (told ≡ []))
    ⊎ ((IsClean new → ¬ ListsName old name) × (well ≡ false) × (out ≡ []) × (told ≡ no_block_line))

-- the block stored under the name is damaged, or the store failed; or it is as it was, and a device
-- failed, or memory ran out
abbrev pub GetFails : {S : Type 0} → Ghosts S → CidParts → S → S → Fault → Type 0
GetFails g name old new (fault.Store told) = GetRefused g name old new told
GetFails g name old new (fault.Tool e) = StaysSame g old new

-- ---- has

-- The result says whether something is listed under the name, and the store is as it was; or the
-- store failed.
abbrev pub Has : {S : Type 0} → Ghosts S → CidParts → S → Result Bool Fault → S → Type 0
Has g name old (Ok found) new = StaysSame g old new
    × (IsClean (g.view new) → IsTrue found ↔ ListsName (g.view old) name)
Has g name old (Err (fault.Store told)) new = FailsByStore g ⊥ old new told
Has g name old (Err (fault.Tool e)) new = ⊥
