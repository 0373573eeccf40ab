use Rattle.std.proofs.Common.{rules}
use Rattle.ipld_tree.specs.Tree.{bytes}
use Rattle.types_serde.specs.Building.{put, put_bytes}
use Rattle.types_serde.proofs.Leaves.{good_bytes}
use Rattle.types_serde.proofs.Levels.{bytes_are_bytes}
use Rattle.types_serde.proofs.Opening.{puts_good, moves_as}
use Rattle.types_serde.proofs.sink.Sink.bytes.Goals as goal

pub returns-in_default-clause-moved : goal.returns-in_default-clause-moved
returns-in_default-clause-moved c = moves_as c.args.self.now c.put.new.self c.put.result (put (bytes c.args.v.now)) (put_bytes c.args.v.now) (bytes_are_bytes c.args.v.now _ c.in_default.not-Link) (puts_good c.args.self.now c.put.new.self c.put.result _ (bytes c.args.v.now) c.put.ensures.put (good_bytes c.args.v.now (search rules)))
