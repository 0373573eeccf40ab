use Rattle.std.proofs.Common.{◌≡◌, ◌∷◌, length, ap, arith, rules}
use Rattle.program_sections.specs.Lists.{list_lines}
use Rattle.program_sections.proofs.Listing.{read_more}
use Rattle.program_sections.proofs.names.names_in.Goals as goal

pub loop-line-preserved : goal.loop-line-preserved
loop-line-preserved c =
    let first : c.loop-line.line-iterator ≡ c.in-Some.line.now ∷ c.next.new.self = search (rules, c.in-Some.ensures.steps) in
    let count = ap length first in
    (omega (arith, c.loop-line.invariant.0, count), read_more (list_lines c.args.text.now) c.loop-line.line-iterator c.next.new.self c.in-Some.line.now c.loop-line.number c.loop-line.names.keys c.add_name.new.names.keys c.in-Ok.name c.loop-line.invariant.1 first c.in-Ok.ensures c.in_ok-add_name-in-Ok.ensures)
