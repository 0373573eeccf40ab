-- A list of CIDs, one per line.
use Rattle.std.specs.Prelude.{◌≡◌, ◌⊎◌, ℕ, ◌+◌, List, [], ◌∷◌, ◌++◌, codes, decimal, length, map, Bool, false, Vec, Result, MatchResult}
use Rattle.std.specs.BTreeSet.{BTreeSet}
use Rattle.std.specs.declared.alloc.Global.{Global}
use Rattle.bstr.specs.Text.{lines_of, without_terminator}
use Rattle.ipld_tree.specs.Cid.{CidParts}
use Rattle.text_cid.specs.Texts.{IsTextFault}
use Rattle.text_cid.specs.declared.error.CidTextError.{CidTextError}
use Rattle.program_parts.specs.Lines.{no_cid_line}
use Rattle.program_inspect.specs.Names.{distinct}
use Rattle.program_sections.specs.Words.{AreTexts}
use Rattle.program_sections.specs.Filtering.{IsFiltered, IsFilteredFront}
use Rattle.program_sections.specs.declared.filter.Filter.{Filter}
use Rattle.program_sections.specs.declared.kept.Kept.TheVariants.{Named}

-- the lines without their line feeds, or carriage returns before these
abbrev pub list_lines : List ℕ → List (List ℕ)
list_lines text = map without_terminator (lines_of text)

-- the list holds these CIDs, one per line, and this is their set
abbrev pub ListsNames : List ℕ → List CidParts → Type 0
ListsNames text names = (cs : List CidParts) × AreTexts (list_lines text) cs × (names ≡ distinct cs)

-- the first line of the list that is not a CID has this number (from 1), for this cause
abbrev pub IsWrongLine : List ℕ → ℕ → CidTextError → Type 0
IsWrongLine text n e = (before : List (List ℕ)) × (line : List ℕ) × (after : List (List ℕ))
    × (cs : List CidParts) × (list_lines text ≡ before ++ line ∷ after) × AreTexts before cs × IsTextFault e line
    × (n ≡ length before + 1)

-- the error line for that line
abbrev pub wrong_line : ℕ → CidTextError → List ℕ
wrong_line n e = codes "line " ++ (decimal n ++ (codes ": " ++ no_cid_line e))

abbrev pub TellsWrongLine : List ℕ → List ℕ → Type 0
TellsWrongLine text told = (n : ℕ) × (e : CidTextError) × IsWrongLine text n e × (told ≡ wrong_line n e)

-- the set of CIDs in the list; or an error line for the first line that is not one
abbrev pub ReadsNames : List ℕ → Result (BTreeSet CidParts) (Vec ℕ Global) → Type 0
ReadsNames text result = MatchResult result (λ names. ListsNames text names.keys)
    (λ line. TellsWrongLine text line.items)

-- the filter has these roots, and keeps the sections named in the list
abbrev pub IsListFilter : List CidParts → List ℕ → Filter → Type 0
IsListFilter roots text f = (names : BTreeSet CidParts) × ListsNames text names.keys
    × (f.roots.items ≡ roots) × (f.kept ≡ Named names)

-- What `filter --names` writes: the sections named in the list; or nothing, and an error line for
-- the first line of the list that is not a CID.
abbrev pub IsFilteredByList : List CidParts → List ℕ → List ℕ → Bool → List ℕ → List ℕ → Type 0
IsFilteredByList roots text b well out told =
    ((f : Filter) × IsListFilter roots text f × IsFiltered f b well out told)
    ⊎ ((well ≡ false) × (out ≡ []) × TellsWrongLine text told)

abbrev pub IsFilteredByListFront : List CidParts → List ℕ → List ℕ → List ℕ → Type 0
IsFilteredByListFront roots text b out = (out ≡ []) ⊎ ((f : Filter) × IsListFilter roots text f × IsFilteredFront f b out)
