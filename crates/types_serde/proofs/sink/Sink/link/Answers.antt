use Rattle.std.proofs.Common.{refl, rules}
use Rattle.types_serde.specs.declared.frame.Stage.TheVariants as stage
use Rattle.types_serde.proofs.Opening.{link_steps}
use Rattle.types_serde.proofs.sink.Sink.link.Goals as goal

pub returns-in-Rests : goal.returns-in-Rests
returns-in-Rests c = link_steps c.args.self.now (record c.args.self.now { bytes = c.truncate.new.self; top = record c.args.self.now.top { stage = stage.Link } }) c.in-Rests.is (search rules) (search rules) c.truncate.ensures.items refl refl refl
