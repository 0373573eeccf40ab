-- What is written of each name that is listed in a store.
use Rattle.std.specs.Prelude.{◌≡◌, ℕ, List, [], ◌∷◌, Bool, true, false, ⊤, Option, None, Some, Result, MatchResult, MatchOption}
use Rattle.std.specs.Io.KnownBytes.{Appends}
use Rattle.sqlite_trees.specs.View.{View, IsClean}
use Rattle.ipld_tree.specs.Cid.{CidParts}
use Rattle.program_parts.specs.Lines.{listed_line, IsSaidOfEach}
use Rattle.store_on_disk.specs.Rows.{name_tree}
use Rattle.store_on_disk.specs.Stored.{IsNext, GivesNextName, IsNamedBy, HoldsOnly, IsDamaged}
use Rattle.program_dagstore.specs.Lines.{damaged_line}
use Rattle.program_dagstore.specs.Said.{Breaks}
use Rattle.program_dagstore.specs.declared.fault.Fault.{Fault}

-- ---- the names

-- the first of the names that are listed after the last one, in byte order
abbrev pub AreFirst : View → Option CidParts → List CidParts → Type 0
AreFirst v last [] = ⊤
AreFirst v last (c ∷ names) = IsNext (v.trees name_tree) last c × AreFirst v (Some c) names

-- all of the names that are listed after the last one, each once, in byte order
abbrev pub AreAll : View → Option CidParts → List CidParts → Type 0
AreAll v last [] = GivesNextName v last None
AreAll v last (c ∷ names) = IsNext (v.trees name_tree) last c × AreAll v (Some c) names

-- the last of the names, or this one if there are none
abbrev pub last_of : Option CidParts → List CidParts → Option CidParts
last_of last [] = last
last_of last (c ∷ names) = last_of (Some c) names

-- ---- what is written of them

-- what is written of a name, by what was stored and what the store shows after the call; and
-- whether all is well with it
abbrev pub Telling : Type 1
Telling = View → View → CidParts → Bool → List ℕ → Type 0

-- the line of the next name after the last one
abbrev pub IsNextLine : Telling → View → Option CidParts → View → List ℕ → Type 0
IsNextLine IsSaid old last new text = (name : CidParts) × (well : Bool)
    × IsSaid old new name well text × (IsClean new → IsNext (old.trees name_tree) last name)

-- A line is written for each name, unless a wrong answer of the disk was taken as true; or for some
-- first names, and then a prefix of the line of the next.
abbrev pub SaysNames : Telling
    → View → Option (List ℕ) → Result Bool Fault → View → Option (List ℕ) → Type 0
SaysNames IsSaid old before result new after = MatchResult result
    (λ well. (names : List CidParts) × (said : List ℕ) × (IsClean new → AreAll old None names)
    × IsSaidOfEach (IsSaid old new) names well said × Appends before after said)
    (λ e. (names : List CidParts) × (well : Bool) × (said : List ℕ) × (between : Option (List ℕ))
    × (IsClean new → AreFirst old None names) × IsSaidOfEach (IsSaid old new) names well said
    × Appends before between said
    × Breaks (IsNextLine IsSaid old (last_of None names) new) between after e)

-- ---- list

-- how many bytes are stored under the name, and they match it; or that they are damaged
abbrev pub IsListedLine : Telling
IsListedLine old new name true text = (b : List ℕ) × IsNamedBy name b
    × (IsClean new → HoldsOnly old name b) × (text ≡ listed_line (name, b))
IsListedLine old new name false text = (IsClean new → IsDamaged old name)
    × (text ≡ damaged_line name)

-- ---- a step

-- the line of the next name was written, or there is none; or the output was cut short
abbrev pub SaysNext : Telling → View → Option CidParts → Option (List ℕ)
    → Result (Option (CidParts × Bool)) Fault → View → Option (List ℕ) → Type 0
SaysNext IsSaid old last before result new after = MatchResult result
    (λ next. MatchOption next
    ((after ≡ before) × (IsClean new → GivesNextName old last None))
    (λ p. (text : List ℕ) × IsSaid old new p.0 p.1 text
    × (IsClean new → IsNext (old.trees name_tree) last p.0) × Appends before after text))
    (Breaks (IsNextLine IsSaid old last new) before after)
