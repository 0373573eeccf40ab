use Rattle.std.proofs.Common.{refl}
use Rattle.ipld_tree.specs.Tree.{null}
use Rattle.types_serde.specs.Building.{put, put_unit}
use Rattle.types_serde.specs.declared.frame.Stage.TheVariants as stage
use Rattle.types_serde.proofs.Leaves.{good_null}
use Rattle.types_serde.proofs.Levels.{no_map, unit_is_null}
use Rattle.types_serde.proofs.Opening.{stage_turned, puts_good, moves_as}
use Rattle.types_serde.proofs.sink.Sink.unit.Goals as goal

pub returns-in-WantsMap-clause-moved : goal.returns-in-WantsMap-clause-moved
returns-in-WantsMap-clause-moved c = stage_turned put_unit c.args.self.now (record c.args.self.now.top { stage = stage.Rests }) refl refl (λ xs. no_map c.args.self.now.top c.args.self.now.bytes.items xs c.in-WantsMap.is)

pub returns-in_default-clause-moved : goal.returns-in_default-clause-moved
returns-in_default-clause-moved c = moves_as c.args.self.now c.put_head.new.self c.put_head.result (put null) put_unit (unit_is_null _ c.in_default.not-WantsMap) (puts_good c.args.self.now c.put_head.new.self c.put_head.result _ null c.put_head.ensures.put good_null)
