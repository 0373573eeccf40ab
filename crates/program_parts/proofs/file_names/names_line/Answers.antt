use Rattle.std.proofs.Common.{◌≡◌, [], sym, subst}
use Rattle.program_parts.specs.FileNames.{entry_line}
use Rattle.program_parts.proofs.file_names.names_line.Goals as goal

pub returns-in_ok-line-in-NoBlock : goal.returns-in_ok-line-in-NoBlock
returns-in_ok-line-in-NoBlock c = subst (λ s. c.in_ok-line-in-NoBlock.line.items ≡ entry_line c.args.end.now.block c.args.end.now.name.now s) (sym c.in-NoBlock.is) (c.in_ok-line-in-NoBlock.ensures.line [])
