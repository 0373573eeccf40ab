use Rattle.std.proofs.Common.{sym, subst}
use Rattle.dagcbor_write.specs.Answers.{AreSpellingOf}
use Rattle.atproto_mst.specs.Commits.{unsigned_tree}
use Rattle.abi_memory_calls.proofs.told.commit_block.Goals as goal

pub returns-in-Ok : goal.returns-in-Ok
returns-in-Ok c = (c.deref.result.now, subst (AreSpellingOf (unsigned_tree c.args.commit.now)) (sym c.deref.ensures.value) c.in_ok-signed.ensures, c.in-Ok.ensures.value)
