use Rattle.ipld_links.specs.Reaching.{stored_in}
use Rattle.program_records.proofs.CommitTelling.{no_commit}
use Rattle.program_records.proofs.commit.commit_at.Goals as goal

pub returns-in_ok-line-in-Err : goal.returns-in_ok-line-in-Err
returns-in_ok-line-in-Err c = no_commit (stored_in c.args.blocks.now) c.args.root.now c.in-Err.error c.in_ok-line-in-Err.line.items c.in-Err.ensures.refused c.in-Err.ensures.whole c.in_ok-line-in-Err.ensures.0 c.in_ok-line-in-Err.ensures.1
