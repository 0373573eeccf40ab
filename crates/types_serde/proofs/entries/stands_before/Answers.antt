use Rattle.std.proofs.Common.{arith, ltb-true}
use Rattle.types_serde.proofs.Before.{before_at}
use Rattle.types_serde.proofs.entries.stands_before.Goals as goal

pub returns-then-a-i : goal.returns-then-a-i
returns-then-a-i c low = before_at c.loop-i.i c.args.a.now c.args.b.now c.loop-i.invariant (omega (arith, c.loop-i-test.true, c.min-i-end.ensures)) (omega (arith, c.loop-i-test.true, c.min-i-end.ensures)) (ltb-true _ _ low)
