use Rattle.std.proofs.Common.{suc, ◌+◌, length, subst, arith}
use Rattle.dagcbor_core.specs.Head.{head}
use Rattle.lent_memory.specs.Puts.{PutsAt}
use Rattle.lent_memory.proofs.Putting.{link_put}
use Rattle.lent_memory.proofs.part.put_link.Goals as goal

pub returns : goal.returns
returns c =
    let n = length c.args.cid.now in
    let front : PutsAt (head 2 (suc n)) c.put-tagged.result c.put-tagged.new.out c.put_head-following.new.out c.put_head-following.result = subst (λ m. PutsAt (head 2 m) c.put-tagged.result c.put-tagged.new.out c.put_head-following.new.out c.put_head-following.result) {x = 1 + n} {y = suc n} (omega arith) c.put_head-following.ensures in
    link_put c.args.at c.put-tagged.result c.put_head-following.result c.put-zero.result c.put.result n c.args.cid.now c.args.out.now c.put-tagged.new.out c.put_head-following.new.out c.put-zero.new.out c.put.new.out c.requires c.put-tagged.ensures front c.put-zero.ensures c.put.ensures
