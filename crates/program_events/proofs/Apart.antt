-- The words of `event` are no command.
use Rattle.std.proofs.Common.{◌≡◌, ℕ, List, [], ap, sym, ◌∙◌, get_or, arith, codes, Option, None, Some}
use Rattle.program_dagcar.specs.Commands.{command_name, IsCommand}
use Rattle.program_dagcar.specs.declared.command.Command.{Command}
use Rattle.program_dagcar.specs.declared.command.Command.TheVariants as commands
use Rattle.program_events.specs.Words.{IsEvent}

-- the first letter of the first of the words
abbrev letter_of : List ℕ → ℕ
letter_of word = get_or word 0 0

abbrev first_letter : List (List ℕ) → ℕ
first_letter words = letter_of (get_or words 0 [])

first_of : (words : List (List ℕ)) (c : Command) → IsCommand words c → first_letter words ≡ letter_of (command_name c)
first_of words (commands.Get name) h = ap first_letter h.1
first_of words (commands.Tree name) h = ap first_letter h.1
first_of words (commands.At name) h = ap first_letter h.1
first_of words (commands.Prove name) h = ap first_letter h.1
first_of words (commands.Ls name) h = ap first_letter h.1
first_of words (commands.Cat name) h = ap first_letter h.1
first_of words (commands.Raw name) h = ap first_letter h.1
first_of words commands.Summary h = ap first_letter h
first_of words commands.Record h = ap first_letter h.1
first_of words c h = ap first_letter h

other_letter : (c : Command) → letter_of (codes "event") ≡ letter_of (command_name c) → ⊥
other_letter (commands.Raw n) e = omega (arith, e)
other_letter c e = omega (arith, e)

pub event_apart : (words : List (List ℕ)) (file : Option (List ℕ)) (c : Command) → IsEvent words file → IsCommand words c → ⊥
event_apart words None c h k = other_letter c (sym (ap first_letter h) ∙ first_of words c k)
event_apart words (Some file) c h k = other_letter c (sym (ap first_letter h) ∙ first_of words c k)
