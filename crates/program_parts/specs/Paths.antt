-- A name and a path, and what the path leads to in a CAR file.
use Rattle.std.specs.Prelude.{◌≡◌, ◌⊎◌, ℕ, List, [], Bool, true, false, Some, ⊤, if◌then◌else◌, ◌==◌}
use Rattle.std.specs.List.{before_first, after_first}
use Rattle.ipld_tree.specs.Cid.{CidParts}
use Rattle.ipld_tree.specs.Tree.{Tree}
use Rattle.text_dag_json.specs.DagJson.{dag_json, has_reserved_key}
use Rattle.files_car.specs.Car.{Section}
use Rattle.files_car.specs.Versions.{IsFile}
use Rattle.ipld_links.specs.Reaching.{Stored}
use Rattle.ipld_paths.specs.Laws.{Leads}
use Rattle.program_parts.specs.Lines.{line}
use Rattle.program_parts.specs.Ends.{IsToldAt}
use Rattle.program_parts.specs.Raw.{IsRawOf}
use Rattle.program_parts.specs.Proof.{IsProofOf}
use Rattle.program_parts.specs.Shown.{reserved_line}
use Rattle.program_parts.specs.Holding.{Stores, TellsFault}
use Rattle.program_parts.specs.declared.holding.Kept.TheVariants as which
use Rattle.program_parts.specs.declared.at.Asked.{Asked}
use Rattle.program_parts.specs.declared.at.Asked.TheVariants as asks

-- a name and a path: the text before the first slash, and after it
abbrev pub name_part : List ℕ → List ℕ
name_part text = before_first (λ b. b == 0x2f) text

abbrev pub path_part : List ℕ → List ℕ
path_part text = after_first (λ b. b == 0x2f) text

-- The path leads from the root to a tree, which is written as a line of DAG-JSON, with a warning if
-- a map in it has the key `/`.
abbrev pub IsSaidAt : Stored → CidParts → List (List ℕ) → Bool → List ℕ → List ℕ → Type 0
IsSaidAt stored root path well out told = (n : ℕ) × (u : Tree) × Leads n stored root path (Some u)
    × (well ≡ true) × (out ≡ line (dag_json u))
    × (told ≡ (if has_reserved_key u then reserved_line else []))

-- what `at` says of stored blocks
abbrev pub IsAtOf : Stored → CidParts → List (List ℕ) → Bool → List ℕ → List ℕ → Type 0
IsAtOf stored root path well out told =
    IsSaidAt stored root path well out told ⊎ IsToldAt stored root path well out told

-- what `at`, `at --raw` and `prove` say of stored blocks
abbrev pub IsAnswerOf : Asked → CidParts → List (List ℕ) → Stored → Bool → List ℕ → List ℕ → Type 0
IsAnswerOf asks.Data root path stored well out told = IsAtOf stored root path well out told
IsAnswerOf asks.Bytes root path stored well out told = IsRawOf stored root path well out told
IsAnswerOf asks.Proof root path stored well out told = IsProofOf stored root path well out told

-- what they say of a CAR file: the answer over its sections; or nothing, and a line that says why
-- the bytes are not a CAR file
abbrev pub IsAnswerOfFile : Asked → CidParts → List (List ℕ) → List ℕ → Bool → List ℕ → List ℕ
    → Type 0
IsAnswerOfFile asked root path b well out told = ((roots : List (List ℕ))
    × (sections : List Section) × IsFile b roots sections × ((stored : Stored) × Stores which.All sections stored
    × IsAnswerOf asked root path stored well out told))
    ⊎ ((well ≡ false) × (out ≡ []) × TellsFault (λ sections. ⊤) b told)

-- The CAR file that `prove` writes decides the path: what `at`, or `at --raw`, says of that file,
-- it says of the whole one.
abbrev pub ProofsDecide : Asked → Type 0
ProofsDecide asked = (root : CidParts) (path : List (List ℕ)) (b proof told : List ℕ)
    → IsAnswerOfFile asks.Proof root path b true proof told → (well : Bool) (out heard : List ℕ)
    → IsAnswerOfFile asked root path proof well out heard
    → IsAnswerOfFile asked root path b well out heard
