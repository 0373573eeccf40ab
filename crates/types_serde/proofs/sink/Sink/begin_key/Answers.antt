use Rattle.std.proofs.Common.{refl}
use Rattle.types_serde.specs.Building.{begin_key}
use Rattle.types_serde.specs.declared.frame.Stage.TheVariants as stage
use Rattle.types_serde.proofs.Levels.{key_begun}
use Rattle.types_serde.proofs.Opening.{stage_turned}
use Rattle.types_serde.proofs.sink.Sink.begin_key.Goals as goal

pub returns-in-Rests-clause-moved : goal.returns-in-Rests-clause-moved
returns-in-Rests-clause-moved c = stage_turned begin_key c.args.self.now (record c.args.self.now.top { stage = stage.WantsKey }) refl refl (λ xs. key_begun c.args.self.now.top c.args.self.now.bytes.items xs c.in-Rests.is)
