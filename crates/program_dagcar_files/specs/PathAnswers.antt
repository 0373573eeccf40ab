-- What `at` and `prove` answer for a random-access file.
use Rattle.std.specs.Prelude.{◌≡◌, ◌⊎◌, ℕ, List, ◌++◌, codes, Bool, true, false}
use Rattle.ipld_tree.specs.Cid.{CidParts}
use Rattle.ipld_links.specs.Collisions.{Collides}
use Rattle.ipld_links.specs.Reaching.{Stored}
use Rattle.program_parts.specs.Lines.{line}
use Rattle.program_parts.specs.Paths.{IsAnswerOf, IsAnswerOfFile}
use Rattle.program_parts.specs.declared.at.Asked.{Asked}
use Rattle.program_parts.specs.declared.at.Asked.TheVariants as asks
use Rattle.program_dagcar.specs.declared.command.Command.{Command}
use Rattle.program_dagcar.specs.declared.command.Command.TheVariants as commands
use Rattle.program_index.specs.Layouts.{HasIndex}
use Rattle.program_index.specs.Ways.{HoldsWay, LeavesIndex}

-- the command that asks this about the root
abbrev pub asking : Asked → CidParts → Command
asking asks.Data root = commands.At root
asking asks.Bytes root = commands.Raw root
asking asks.Proof root = commands.Prove root

-- ---- the answer

-- the error line if the index does not lead to a block on the way that the file has
abbrev pub no_way_line : List ℕ
no_way_line = line (codes "dagcar: the index has no right entry of a block on the way")

-- the answer over the blocks on the way, each of which matches its CID
abbrev pub IsAnswerBound : Asked → CidParts → List (List ℕ) → Bool → List ℕ → List ℕ → Type 0
IsAnswerBound asked root path well out told = (stored : Stored) × HoldsWay stored root path
    × IsAnswerOf asked root path stored well out told

-- the answer if the index does not lead to a block on the way: the same as for any file, and if the
-- path leads to something, a final error line
abbrev pub IsAnswerPast : Asked → CidParts → List (List ℕ) → List ℕ → Bool → List ℕ → List ℕ → Type 0
IsAnswerPast asked root path b well out told = ((well ≡ true) × ((heard : List ℕ)
    × (told ≡ heard ++ no_way_line) × IsAnswerOfFile asked root path b true out heard))
    ⊎ ((well ≡ false) × IsAnswerOfFile asked root path b false out told)

-- The answer for a random-access file. Without an index: the same as for any file. With one: the
-- answer over the blocks on the way; or, if the index does not list one of them, the answer past
-- the index.
abbrev pub IsAnswerNamed : Asked → CidParts → List (List ℕ) → List ℕ → Bool → List ℕ → List ℕ → Type 0
IsAnswerNamed asked root path b well out told = ((¬ HasIndex b) × IsAnswerOfFile asked root path b well out told)
    ⊎ (HasIndex b × (IsAnswerBound asked root path well out told
    ⊎ (LeavesIndex b root path × IsAnswerPast asked root path b well out told)))

-- ---- laws

-- What is written for a file with an index is what is written without, for that file or any other,
-- if the path leads to something in both; or two different byte strings with the same SHA-256 are
-- at hand.
abbrev pub IndexLeadsThere : Asked → Type 0
IndexLeadsThere asked = (root : CidParts) (path : List (List ℕ)) (b other out told plain heard : List ℕ)
    → IsAnswerNamed asked root path b true out told → IsAnswerOfFile asked root path other true plain heard
    → (out ≡ plain) ⊎ Collides

-- The answer over the blocks on the way is the answer for each file in which the path leads to
-- something. So if it leads to nothing there, it does so in all files; or two different byte
-- strings with the same SHA-256 are at hand.
abbrev pub WaysBind : Asked → Type 0
WaysBind asked = (root : CidParts) (path : List (List ℕ)) (well : Bool) (out told other plain heard : List ℕ)
    → IsAnswerBound asked root path well out told → IsAnswerOfFile asked root path other true plain heard
    → ((well ≡ true) × (out ≡ plain) × (told ≡ heard)) ⊎ Collides
