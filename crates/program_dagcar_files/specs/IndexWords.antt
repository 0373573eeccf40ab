-- The words that ask about the index of a file.
use Rattle.std.specs.Prelude.{◌≡◌, ◌≢◌, ℕ, List, [], ◌∷◌, codes}
use Rattle.program_dagcar.specs.Commands.{IsCommand}
use Rattle.program_dagcar.specs.declared.command.Command.{Command}
use Rattle.program_dagcar_files.specs.declared.index_words.IndexAsked.{IndexAsked}
use Rattle.program_dagcar_files.specs.declared.index_words.IndexAsked.TheVariants as asks

abbrev pub asked_word : IndexAsked → List ℕ
asked_word asks.Entries = codes "list"
asked_word asks.Judgement = codes "check"

-- `list` or `check`, then `--index`, and then a file, which is not standard input
abbrev pub AreIndexWords : List (List ℕ) → IndexAsked → List ℕ → Type 0
AreIndexWords words asked file = (words ≡ asked_word asked ∷ codes "--index" ∷ file ∷ []) × (file ≢ codes "-")

-- these words are no other command
abbrev pub IndexWordsAreNoCommand : Type 0
IndexWordsAreNoCommand = (words : List (List ℕ)) (asked : IndexAsked) (file : List ℕ) (c : Command) → AreIndexWords words asked file → ¬ IsCommand words c
