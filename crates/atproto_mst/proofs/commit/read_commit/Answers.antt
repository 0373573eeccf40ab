use Rattle.std.proofs.Common.{inl, inr}
use Rattle.atproto_mst.proofs.ShownCommits.{commit_read}
use Rattle.atproto_mst.proofs.commit.read_commit.Goals as goal

pub returns-in-Ok : goal.returns-in-Ok
returns-in-Ok c = commit_read c.args.block.now c.in-Ok.commit c.in-Ok.ensures.value

pub returns-in_default : goal.returns-in_default
returns-in_default c = elim c.in-Err.ensures.refused [
  | inl memory ↦ absurd (c.in_default.not-OutOfMemory memory)
  | inr none ↦ (none, c.in_default.not-OutOfMemory, c.in-Err.ensures.never, c.in-Err.ensures.following)
]
