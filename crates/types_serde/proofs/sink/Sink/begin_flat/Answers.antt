use Rattle.std.proofs.Common.{refl, rules}
use Rattle.types_serde.specs.declared.frame.Stage.TheVariants as stage
use Rattle.types_serde.proofs.Closing.{flat_begun}
use Rattle.types_serde.proofs.sink.Sink.begin_flat.Goals as goal

pub returns-in-Some : goal.returns-in-Some
returns-in-Some c = flat_begun c.args.self.now (record c.args.self.now { top = record c.args.self.now.top { stage = stage.Rests; flat = c.in-Some.flat } }) c.requires c.in-Some.flat (search rules) refl
