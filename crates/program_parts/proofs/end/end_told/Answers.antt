use Rattle.std.proofs.Common.{◌≡◌, [], sym, subst}
use Rattle.program_parts.specs.Ends.{end_line}
use Rattle.program_parts.proofs.end.end_told.Goals as goal

pub returns-in_ok-line-in-NoBlock : goal.returns-in_ok-line-in-NoBlock
returns-in_ok-line-in-NoBlock c = subst (λ e. c.in_ok-line-in-NoBlock.line.items ≡ end_line c.args.block.now e) (sym c.in-NoBlock.is) (c.in_ok-line-in-NoBlock.ensures.line [])
