use Rattle.std.proofs.Common.{inl}
use Rattle.ipld_links.specs.Reaching.{stored_in}
use Rattle.program_records.specs.Words.{repo_line}
use Rattle.program_records.proofs.Telling.{if_ok, told_as, no_commit_at}
use Rattle.program_records.proofs.record.record_at.Goals as goal

pub returns-in-Ok : goal.returns-in-Ok
returns-in-Ok c = if_ok c.key_said.result c.key_said.ensures (λ p h. inl (c.in-Ok.commit, c.in-Ok.ensures.read, h))

pub returns-in_ok-line-in-Err : goal.returns-in_ok-line-in-Err
returns-in_ok-line-in-Err c = no_commit_at (stored_in c.args.blocks.now) c.args.key.now c.args.root.now c.in-Err.error c.told_alone.result.0.1 c.told_alone.result.0.0.items c.told_alone.result.1.items c.in-Err.ensures.refused c.in-Err.ensures.whole c.in_ok-line-in-Err.ensures.0
    (told_as c.in_ok-line-in-Err.line.items (repo_line c.args.root.now c.in-Err.error) _ _ _ c.in_ok-line-in-Err.ensures.1 c.told_alone.ensures)
