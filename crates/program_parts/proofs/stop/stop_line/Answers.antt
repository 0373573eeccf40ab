use Rattle.std.proofs.Common.{◌≡◌, [], sym, subst}
use Rattle.program_parts.specs.Stops.{stop_line}
use Rattle.program_parts.proofs.stop.stop_line.Goals as goal

pub returns-in_ok-line-in-NoBlock : goal.returns-in_ok-line-in-NoBlock
returns-in_ok-line-in-NoBlock c = subst (λ s. c.in_ok-line-in-NoBlock.line.items ≡ stop_line c.args.name.now s) (sym c.in-NoBlock.is) (c.in_ok-line-in-NoBlock.ensures.line [])
