use Rattle.std.proofs.Common.{◌≡◌, [], ◌∷◌, map, string_bytes, MatchOption, sym, subst}
use Rattle.ipld_tree.specs.Cid.{CidParts}
use Rattle.program_dagcar.specs.Commands.{IsCommand}
use Rattle.program_dagcar.specs.declared.command.Command.TheVariants.{Get}
use Rattle.program_dagcar.proofs.Running.{two_words}
use Rattle.program_dagcar_files.proofs.command.name_of.Goals as goal

pub returns-in-len2 : goal.returns-in-len2
returns-in-len2 c =
    let same : map string_bytes c.args.args.now ≡ c.as_str.result.now ∷ c.as_str-in-len2.result.now ∷ [] = two_words string_bytes c.args.args.now c.word-item.result c.text-item.result _ _ c.in-len2.len_at_least c.in-len2.len_below c.word-item.is c.text-item.is c.as_str.ensures.value c.as_str-in-len2.ensures.value in
    subst (λ ws. MatchOption c.name_after.result ((n : CidParts) → ¬ IsCommand ws (Get n)) (λ n. IsCommand ws (Get n))) (sym same) c.name_after.ensures
