use Rattle.std.proofs.Common.{◌≡◌, inl, ap, ◌∙◌, true, Some, option_map, rules}
use Rattle.std.specs.Str.{bytes_eq}
use Rattle.std.proofs.lemmas.Slice.Eq.{bytes_eq-Decides}
use Rattle.program_parts.proofs.holding.replaces.Goals as goal

pub returns-in-Some : goal.returns-in-Some
returns-in-Some c =
    let yes : bytes_eq c.in-Some.block.now c.args.section.now.block.now ≡ true = search rules in
    inl (ap (option_map (λ b. b.now)) c.in-Some.is ∙ ap Some ((bytes_eq-Decides c.in-Some.block.now c.args.section.now.block.now).0 yes))
