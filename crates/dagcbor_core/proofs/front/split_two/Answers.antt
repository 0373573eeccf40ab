use Rattle.std.proofs.Common.{arith}
use Rattle.dagcbor_core.proofs.Splitting.{number_split}
use Rattle.dagcbor_core.proofs.front.split_two.Goals as goal

pub returns : goal.returns
returns c = let k = c.in_ok-front.ensures.cases in rw c.from.ensures (omega arith, omega arith, number_split 2 c.high_first_two.result c.args.bytes.now c.in_ok-front.front.now c.in_ok-front.rest.now c.high_first_two.ensures k.0 k.1)
