-- The words that ask for an index, or for a file made of another's sections.
use Rattle.std.specs.Prelude.{◌≡◌, ◌≢◌, ℕ, List, [], ◌∷◌, codes, Option}
use Rattle.ipld_tree.specs.Cid.{CidParts}
use Rattle.program_dagcar.specs.Commands.{IsCommand}
use Rattle.program_dagcar.specs.declared.command.Command.{Command}
use Rattle.program_sections.specs.Words.{IsFilter, IsMerge}
use Rattle.program_sections.specs.SplitWords.{IsSplit}
use Rattle.program_sections.specs.declared.words.By.{By}
use Rattle.program_records.specs.CommitWords.{AreCommitWords}
use Rattle.program_records.specs.declared.commit_words.CommitAsked.{CommitAsked}

-- `index` and a file, which is not standard input
abbrev pub IsIndex : List (List ℕ) → List ℕ → Type 0
IsIndex words file = (words ≡ codes "index" ∷ file ∷ []) × (file ≢ codes "-")

-- these words are no other command
abbrev pub IndexIsNoCommand : Type 0
IndexIsNoCommand = (words : List (List ℕ)) (file : List ℕ) (c : Command) → IsIndex words file → ¬ IsCommand words c

-- the words of `filter` are no other command
abbrev pub FilterIsNoCommand : Type 0
FilterIsNoCommand = (words : List (List ℕ)) (roots : List CidParts) (by : By) (file : Option (List ℕ))
    (c : Command) → IsFilter words roots by file → ¬ IsCommand words c

-- the words of `merge` are no other command
abbrev pub MergeIsNoCommand : Type 0
MergeIsNoCommand = (words : List (List ℕ)) (roots : List CidParts) (files : List (List ℕ))
    (c : Command) → IsMerge words roots files → ¬ IsCommand words c

-- the words of `commit` and `record-proof` are no other command
abbrev pub CommitWordsAreNoCommand : Type 0
CommitWordsAreNoCommand = (words : List (List ℕ)) (asked : CommitAsked) (file : Option (List ℕ))
    (c : Command) → AreCommitWords words asked file → ¬ IsCommand words c

-- the words of `split` are no other command
abbrev pub SplitIsNoCommand : Type 0
SplitIsNoCommand = (words : List (List ℕ)) (roots : List CidParts) (size : ℕ) (file prefix : List ℕ)
    (c : Command) → IsSplit words roots size file prefix → ¬ IsCommand words c
