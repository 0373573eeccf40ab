use Rattle.std.proofs.Common.{arith, pos}
use Rattle.ipld_tree.specs.Tree.{integer}
use Rattle.types_serde.proofs.Leaves.{good_unsigned}
use Rattle.types_serde.proofs.Opening.{puts_good}
use Rattle.types_serde.proofs.sink.Sink.unsigned.Goals as goal

pub returns-clause-moved : goal.returns-clause-moved
returns-clause-moved c = puts_good c.args.self.now c.put_head.new.self c.put_head.result _ (integer (pos c.args.v)) c.put_head.ensures.put (good_unsigned c.args.v (omega (arith, c.ranges.v.fits)))
