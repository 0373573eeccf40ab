use Rattle.std.proofs.Common.{refl}
use Rattle.types_serde.specs.Building.{flatten}
use Rattle.types_serde.specs.declared.frame.Stage.TheVariants as stage
use Rattle.types_serde.proofs.Levels.{flattened}
use Rattle.types_serde.proofs.Opening.{stage_turned}
use Rattle.types_serde.proofs.sink.Sink.flatten.Goals as goal

pub returns-in-Rests-clause-moved : goal.returns-in-Rests-clause-moved
returns-in-Rests-clause-moved c = stage_turned flatten c.args.self.now (record c.args.self.now.top { stage = stage.WantsMap }) refl refl (λ xs. flattened c.args.self.now.top c.args.self.now.bytes.items xs c.in-Rests.is)
