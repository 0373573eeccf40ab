-- The words of the command line.
use Rattle.std.specs.Prelude.{◌≡◌, ℕ, List, [], ◌∷◌, codes}
use Rattle.program_dagcbor.specs.declared.command.Command.{Command}
use Rattle.program_dagcbor.specs.declared.command.Command.TheVariants.{Check, Links}

-- the word that names the command
abbrev pub command_name : Command → List ℕ
command_name Check = codes "check"
command_name Links = codes "links"

-- the words are the one word that names the command
abbrev pub IsCommand : List (List ℕ) → Command → Type 0
IsCommand words command = words ≡ command_name command ∷ []
