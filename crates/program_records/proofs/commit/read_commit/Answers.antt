use Rattle.ipld_links.specs.Reaching.{stored_in}
use Rattle.program_parts.proofs.Known.{if_some}
use Rattle.program_records.proofs.CommitTelling.{commit_read}
use Rattle.program_records.proofs.commit.read_commit.Goals as goal

pub returns-in_ok-found-in-Ok-Ok : goal.returns-in_ok-found-in-Ok-Ok
returns-in_ok-found-in-Ok-Ok g c = if_some (g.R.Read.remaining c.args.input.now) (rw c.in-Ok-Ok.field-0-is at c.in-Ok-Ok.ensures) (λ b k.
    commit_read b c.in-Ok-Ok.held.roots.items (stored_in c.in-Ok-Ok.held.blocks) c.in_ok-found-in-Ok-Ok.found k c.in_ok-found-in-Ok-Ok.ensures)
