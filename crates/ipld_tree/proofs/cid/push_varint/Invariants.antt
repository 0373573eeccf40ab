use Rattle.ipld_tree.proofs.Varint.{IsLeft}
use Rattle.ipld_tree.proofs.cid.push_varint.Given as goal

abbrev pub invariant-loop-rest : goal.invariant-loop-rest
invariant-loop-rest l = IsLeft l.initial.out.items l.number l.out.items l.rest

abbrev pub decreases-loop-rest : goal.decreases-loop-rest
decreases-loop-rest l = l.rest
