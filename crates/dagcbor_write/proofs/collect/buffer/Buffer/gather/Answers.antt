use Rattle.std.proofs.Common.{arith}
use Rattle.dagcbor_write.proofs.Lengths.{grows}
use Rattle.dagcbor_write.proofs.collect.buffer.Buffer.gather.Goals as goal

pub invariant_of-self-2 : goal.invariant_of-self-2
invariant_of-self-2 g c = let more = grows _ _ _ c.in_ok-append.ensures.taken in omega (arith, more, c.self.invariant)
