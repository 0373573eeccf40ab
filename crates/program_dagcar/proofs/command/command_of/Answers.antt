use Rattle.std.proofs.Common.{◌≡◌, [], ◌∷◌, map, string_bytes, MatchOption, sym, subst}
use Rattle.program_dagcar.specs.Commands.{IsCommand}
use Rattle.program_dagcar.proofs.Running.{two_words, three_words}
use Rattle.program_dagcar.specs.declared.command.Command.{Command}
use Rattle.program_dagcar.proofs.command.command_of.Goals as goal

pub returns-in-len2 : goal.returns-in-len2
returns-in-len2 c =
    let same : map string_bytes c.args.args.now ≡ c.as_str-in-len2.result.now ∷ c.as_str-in-len2-2.result.now ∷ [] = two_words string_bytes c.args.args.now c.word-item-then-args-lt3.result c.text-item.result _ _ c.in-len2.len_at_least c.in-len2.len_below c.word-item-then-args-lt3.is c.text-item.is c.as_str-in-len2.ensures.value c.as_str-in-len2-2.ensures.value in
    subst (λ ws. MatchOption c.command_on_text.result ((d : Command) → ¬ IsCommand ws d) (λ d. IsCommand ws d)) (sym same) c.command_on_text.ensures

pub returns-in-len3 : goal.returns-in-len3
returns-in-len3 c =
    let same : map string_bytes c.args.args.now ≡ c.as_str-in-len3.result.now ∷ c.as_str-in-len3-2.result.now ∷ c.as_str-in-len3-3.result.now ∷ [] = three_words string_bytes c.args.args.now c.word-item-then-args-lt4.result c.option-item.result c.text-item-then-args-lt4.result _ _ _ c.in-len3.len_at_least c.in-len3.len_below c.word-item-then-args-lt4.is c.option-item.is c.text-item-then-args-lt4.is c.as_str-in-len3.ensures.value c.as_str-in-len3-2.ensures.value c.as_str-in-len3-3.ensures.value in
    subst (λ ws. MatchOption c.command_with.result ((d : Command) → ¬ IsCommand ws d) (λ d. IsCommand ws d)) (sym same) c.command_with.ensures
