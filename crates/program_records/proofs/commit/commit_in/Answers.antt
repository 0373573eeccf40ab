use Rattle.std.proofs.Common.{true, refl}
use Rattle.program_parts.proofs.Known.{if_some}
use Rattle.program_records.proofs.CommitTelling.{commit_said, no_commit_said}
use Rattle.program_records.proofs.commit.commit_in.Goals as goal

pub returns-in_ok-lines-in-Ok-Ok : goal.returns-in_ok-lines-in-Ok-Ok
returns-in_ok-lines-in-Ok-Ok g c = if_some (g.R.Read.remaining c.args.input.now) (rw c.in-Ok-Ok.field-0-is at c.in-Ok-Ok.ensures) (λ b k.
    commit_said b c.in-Ok-Ok.name c.in-Ok-Ok.commit true c.in_ok-lines-in-Ok-Ok.lines.items c.new.result.items k refl c.in_ok-lines-in-Ok-Ok.ensures c.new.ensures.items)

pub returns-in-Ok-Err : goal.returns-in-Ok-Err
returns-in-Ok-Err g c = if_some (g.R.Read.remaining c.args.input.now) (rw c.in-Ok-Err.field-0-is at c.in-Ok-Err.ensures) (λ b k.
    no_commit_said b c.in-Ok-Err.line.items c.told_alone.result.0.1 c.told_alone.result.0.0.items c.told_alone.result.1.items k c.told_alone.ensures)
