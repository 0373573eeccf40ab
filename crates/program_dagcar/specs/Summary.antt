-- How many sections of a file got each verdict.
use Rattle.std.specs.Prelude.{◌≡◌, ◌↔◌, ℕ, ◌+◌, List, [], ◌∷◌, ◌++◌, length, codes, Bool, true, false, IsTrue, Vec}
use Rattle.std.specs.declared.alloc.Global.{Global}
use Rattle.ipld_tree.specs.Cid.{CidParts}
use Rattle.files_car.specs.Car.{Section}
use Rattle.files_car.specs.Checks.{IsAfter, ListsMissingInFile}
use Rattle.ipld_links.specs.Verdicts.{IsVerdict}
use Rattle.files_car.specs.Told.{Told, sections_of, AreTold}
use Rattle.ipld_links.specs.declared.verdict.Verdict.{Verdict}
use Rattle.ipld_links.specs.declared.verdict.Verdict.TheVariants as verdicts
use Rattle.program_parts.specs.Lines.{is_well}
use Rattle.program_inspect.specs.Facts.{number_line}
use Rattle.program_dagcar.specs.declared.summary.Counts.{Counts}
use Rattle.program_dagcar.specs.declared.summary.Summing.{Summing}

-- ---- counts of verdicts

abbrev pub is_ok : Verdict → Bool
is_ok (verdicts.Block kind) = true
is_ok verdicts.Node = true
is_ok _ = false

abbrev pub is_not_read : Verdict → Bool
is_not_read verdicts.NotRead = true
is_not_read _ = false

abbrev pub are_links_not_read : Verdict → Bool
are_links_not_read verdicts.LinksNotRead = true
are_links_not_read _ = false

abbrev pub is_refused : Verdict → Bool
is_refused (verdicts.Refused e) = true
is_refused (verdicts.NoNode e) = true
is_refused _ = false

abbrev pub is_other_bytes : Verdict → Bool
is_other_bytes verdicts.OtherBytes = true
is_other_bytes _ = false

abbrev pub is_unverified : Verdict → Bool
is_unverified verdicts.Unverified = true
is_unverified _ = false

-- 1 if true, else 0
abbrev pub one_if : Bool → ℕ
one_if true = 1
one_if false = 0

-- the number of sections whose verdict satisfies this
abbrev pub how_many : (Verdict → Bool) → List Told → ℕ
how_many is_so [] = 0
how_many is_so (p ∷ told) = one_if (is_so p.1) + how_many is_so told

-- ---- the lines

-- the numbers of sections, of each verdict, and of missing roots and links
abbrev pub summary_lines : List Told → ℕ → List ℕ
summary_lines told missing = number_line (codes "sections") (length told)
    ++ (number_line (codes "ok") (how_many is_ok told)
    ++ (number_line (codes "not read") (how_many is_not_read told)
    ++ (number_line (codes "links not read") (how_many are_links_not_read told)
    ++ (number_line (codes "refused") (how_many is_refused told)
    ++ (number_line (codes "other bytes") (how_many is_other_bytes told)
    ++ (number_line (codes "not verified") (how_many is_unverified told)
    ++ number_line (codes "missing") missing))))))

-- a section adds no line, only whether its verdict is well
abbrev pub IsVerdictCounted : Section → Bool → List ℕ → Type 0
IsVerdictCounted s well text = (v : Verdict) × IsVerdict s v × (well ≡ is_well v) × (text ≡ [])

-- What `check --summary` says at the end: how many sections got each verdict, and how many roots
-- and links are missing. All is well if none is.
pub record IsSummary (roots : List (List ℕ)) (sections : List Section) (well : Bool) (text : List ℕ) : Type 0 where
  pub missing : Vec CidParts Global
  pub lists : ListsMissingInFile roots sections missing
  pub told : List Told
  pub of_sections : sections_of told ≡ sections
  pub right : AreTold told
  pub lines : text ≡ summary_lines told (length missing.items)
  pub wellness : IsTrue well ↔ (missing.items ≡ [])

-- ---- what is counted

-- the counts are those of these verdicts
pub record AreCounts (counts : Counts) (told : List Told) : Type 0 where
  pub sections : counts.sections ≡ length told
  pub ok : counts.ok ≡ how_many is_ok told
  pub not_read : counts.not_read ≡ how_many is_not_read told
  pub links_not_read : counts.links_not_read ≡ how_many are_links_not_read told
  pub refused : counts.refused ≡ how_many is_refused told
  pub other_bytes : counts.other_bytes ≡ how_many is_other_bytes told
  pub unverified : counts.unverified ≡ how_many is_unverified told

-- one more section is counted, with this verdict
pub record CountsOne (v : Verdict) (old new : Counts) : Type 0 where
  pub sections : new.sections ≡ old.sections + 1
  pub ok : new.ok ≡ old.ok + one_if (is_ok v)
  pub not_read : new.not_read ≡ old.not_read + one_if (is_not_read v)
  pub links_not_read : new.links_not_read ≡ old.links_not_read + one_if (are_links_not_read v)
  pub refused : new.refused ≡ old.refused + one_if (is_refused v)
  pub other_bytes : new.other_bytes ≡ old.other_bytes + one_if (is_other_bytes v)
  pub unverified : new.unverified ≡ old.unverified + one_if (is_unverified v)

-- the section is counted, by the verdict on it
abbrev pub CountsSection : Section → Counts → Counts → Type 0
CountsSection s old new = (v : Verdict) × IsVerdict s v × CountsOne v old new

-- what is known after these sections of a file with these roots
abbrev pub KnowsCounts : Summing → List (List ℕ) → List Section → Type 0
KnowsCounts it roots sections = IsAfter it.check roots sections × ((told : List Told)
    × (sections_of told ≡ sections) × AreTold told × AreCounts it.counts told)

-- the lines of these counts
abbrev pub counts_lines : Counts → ℕ → List ℕ
counts_lines counts missing = number_line (codes "sections") counts.sections
    ++ (number_line (codes "ok") counts.ok
    ++ (number_line (codes "not read") counts.not_read
    ++ (number_line (codes "links not read") counts.links_not_read
    ++ (number_line (codes "refused") counts.refused
    ++ (number_line (codes "other bytes") counts.other_bytes
    ++ (number_line (codes "not verified") counts.unverified
    ++ number_line (codes "missing") missing))))))
