-- What a CAR file holds, in numbers.
use Rattle.std.specs.Prelude.{◌≡◌, ◌⊎◌, ℕ, ◌-◌, ◌==◌, List, [], ◌∷◌, ◌++◌, length, take, map, Bool, true, false, not, ◌&&◌, nat_le, if◌then◌else◌, bytes_eq, ⊤, Vec, Option, None, Some, Result, OnOk, MatchResult}
use Rattle.std.specs.declared.alloc.Global.{Global}
use Rattle.std.specs.declared.alloc.AllocError.{AllocError}
use Rattle.ipld_tree.specs.Cid.{CidParts}
use Rattle.dagcbor_items.specs.Walks.{forms}
use Rattle.files_car.specs.Car.{Section}
use Rattle.files_car.specs.Versions.{IsFile, pragma, number_after}
use Rattle.files_car.specs.Checks.{IsAfter, ListsMissingInFile}
use Rattle.files_car.specs.Each.{SinkTakes}
use Rattle.program_parts.specs.Holding.{TellsFault}
use Rattle.program_inspect.specs.Names.{distinct, is_one_of}
use Rattle.program_inspect.specs.Rows.{rows_of}
use Rattle.program_inspect.specs.Counts.{Measure, names_of, lengths_of, total, least, greatest, AreCounts}
use Rattle.program_inspect.specs.Facts.{plain_text, json_text}
use Rattle.program_inspect.specs.declared.facts.Facts.{Facts}
use Rattle.program_inspect.specs.declared.facts.Root.{Root}
use Rattle.program_inspect.specs.declared.facts.Index.{Index}
use Rattle.program_inspect.specs.declared.inspect.Inspecting.{Inspecting}
use Rattle.program_inspect.specs.declared.inspect.Form.{Form}
use Rattle.program_inspect.specs.declared.inspect.Form.TheVariants.{Lines, Json}

-- ---- what the first bytes say (CARv2 specification)

-- the bytes begin with the pragma of version 2
abbrev pub is_version_2 : List ℕ → Bool
is_version_2 front = bytes_eq (take 11 front) pragma

abbrev pub version_of : List ℕ → ℕ
version_of front = if is_version_2 front then 2 else 1

-- a header of version 2 is complete, and its last number, the offset of the index, is not 0
abbrev pub says_index : List ℕ → Bool
says_index front = is_version_2 front && (nat_le 51 (length front) && not (number_after 43 front == 0))

-- what is reported of the index, if a file that begins thus says that it has one
abbrev pub index_told : Index → List ℕ → Option Index
index_told index front = if says_index front then Some index else None

-- ---- the facts about a file

-- the CIDs and lengths of the blocks of sections
abbrev pub measures : List Section → List Measure
measures sections = map (λ s. (s.0, length s.1)) sections

-- a root, whose block is there unless its CID is one of these
abbrev pub root_unless : List CidParts → CidParts → Root
root_unless lost root = record { cid = root; there = not (is_one_of root lost) }

-- a root, whose block is there unless it is one of those missing
abbrev pub root_in : List CidParts → CidParts → Root
root_in missing root = root_unless (distinct missing) root

-- The facts about a file with these first bytes, roots and blocks, and these missing names. A
-- section is repeated if an earlier one has the same CID.
pub record AreFacts (facts : Facts) (front : List ℕ) (index : Index) (named : List CidParts) (blocks : List Measure) (lost : List CidParts) : Type 0 where
  pub version : facts.version ≡ version_of front
  pub told : facts.index ≡ index_told index front
  pub roots : facts.roots.items ≡ map (root_in lost) named
  pub sections : facts.all.count ≡ length blocks
  pub repeated : facts.repeated ≡ length blocks - length (distinct (names_of blocks))
  pub bytes : facts.all.bytes ≡ total (lengths_of blocks)
  pub least : facts.least ≡ least (lengths_of blocks)
  pub greatest : facts.greatest ≡ greatest (lengths_of blocks)
  pub codecs : facts.codecs.items ≡ rows_of (map (λ m. (m.0.codec, m.1)) blocks)
  pub hashes : facts.hashes.items ≡ rows_of (map (λ m. (m.0.hash_code, m.1)) blocks)
  pub missing : facts.missing ≡ length lost

-- the same, with the missing names that `check` lists
abbrev pub AreFactsOf : Facts → List ℕ → Index → List CidParts → List Section → Type 0
AreFactsOf facts front index roots sections = (missing : Vec CidParts Global)
    × ListsMissingInFile (forms roots) sections missing
    × AreFacts facts front index roots (measures sections) missing.items

-- the bytes are a CAR file, and these are the facts about it
abbrev pub AreFactsOfFile : List ℕ → List ℕ → Index → Facts → Type 0
AreFactsOfFile b front index facts = (roots : List CidParts) × (sections : List Section)
    × IsFile b (forms roots) sections × AreFactsOf facts front index roots sections

-- the same; or the bytes are not a CAR file, and a line says why
abbrev pub IsFound : List ℕ → List ℕ → Index → Result Facts (Vec ℕ Global) → Type 0
IsFound b front index found = MatchResult found (AreFactsOfFile b front index) (λ line. TellsFault (λ sections. ⊤) b line.items)

-- the facts as lines, or as JSON
abbrev pub text_in : Form → Facts → List ℕ
text_in Lines facts = plain_text facts
text_in Json facts = json_text facts

-- What `inspect` writes for bytes: the facts about the file, with `index` if it says that it has
-- one; or nothing, and a line that says why they are not a CAR file.
abbrev pub IsInspected : Form → Index → List ℕ → Bool → List ℕ → List ℕ → Type 0
IsInspected form index b well out told = ((facts : Facts) × AreFactsOfFile b (take 51 b) index facts × (well ≡ true)
    × (out ≡ text_in form facts) × (told ≡ []))
    ⊎ ((well ≡ false) × (out ≡ []) × TellsFault (λ sections. ⊤) b told)

-- ---- its steps

-- what is known after these sections of a file with these roots
abbrev pub Knows : Inspecting → List (List ℕ) → List Section → Type 0
Knows it roots sections = IsAfter it.check roots sections × AreCounts it.counts (measures sections)

-- what is known after one more section, whatever came before
abbrev pub LearnsNext : SinkTakes Inspecting AllocError
LearnsNext s old result new = OnOk result ((roots : List (List ℕ)) (sections : List Section)
    → Knows old roots sections → Knows new roots (sections ++ s ∷ []))
