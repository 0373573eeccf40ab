use Rattle.std.proofs.Common.{◌≡◌, [], ◌∷◌, map, string_bytes, subst}
use Rattle.program_dagcar.specs.Commands.{IsMistyped}
use Rattle.program_dagcar.proofs.Running.{two_words}
use Rattle.program_dagcar.proofs.command.no_cid_in.Goals as goal

pub returns-in-len2 : goal.returns-in-len2
returns-in-len2 c = λ e m.
    let same : map string_bytes c.args.args.now ≡ c.as_str.result.now ∷ c.as_str-in-len2.result.now ∷ [] = two_words string_bytes c.args.args.now c.word-item.result c.text-item.result _ _ c.in-len2.len_at_least c.in-len2.len_below c.word-item.is c.text-item.is c.as_str.ensures.value c.as_str-in-len2.ensures.value in
    c.no_cid_after.ensures e (subst (λ ws. IsMistyped ws e) same m)
