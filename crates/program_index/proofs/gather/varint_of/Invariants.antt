use Rattle.std.proofs.Common.{[]}
use Rattle.ipld_tree.proofs.Varint.{IsLeft}
use Rattle.program_index.proofs.gather.varint_of.Given as goal

abbrev pub invariant-loop-rest : goal.invariant-loop-rest
invariant-loop-rest l = IsLeft [] l.number l.groups.items l.rest

abbrev pub decreases-loop-rest : goal.decreases-loop-rest
decreases-loop-rest l = l.rest
