use Rattle.std.proofs.Common.{length}
use Rattle.dagcbor_core.specs.Head.{head}
use Rattle.lent_memory.proofs.Putting.{put_both}
use Rattle.lent_memory.proofs.part.put_string.Goals as goal

pub returns : goal.returns
returns c =
    put_both c.args.at c.put_head-following.result c.put.result (head c.args.major (length c.args.bytes.now)) c.args.bytes.now c.args.out.now c.put_head-following.new.out c.put.new.out c.requires.room c.put_head-following.ensures c.put.ensures
