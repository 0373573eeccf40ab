-- The arguments of `event`, and those of commands.
use Rattle.std.specs.Prelude.{ℕ, List, Option}
use Rattle.program_dagcar.specs.Commands.{IsCommand}
use Rattle.program_dagcar.specs.declared.command.Command.{Command}
use Rattle.program_events.specs.Words.{IsEvent}

-- the arguments of `event` are not a command
abbrev pub EventIsNoCommand : Type 0
EventIsNoCommand = (words : List (List ℕ)) (file : Option (List ℕ)) (c : Command) → IsEvent words file → ¬ IsCommand words c
