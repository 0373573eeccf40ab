use Rattle.std.proofs.Common.{refl, rules}
use Rattle.types_serde.proofs.Closing.{flat_ended}
use Rattle.types_serde.proofs.sink.Sink.end_map.Goals as goal

pub returns-in-Some : goal.returns-in-Some
returns-in-Some c = flat_ended c.args.self.now (record c.args.self.now { top = record c.args.self.now.top { flat = c.in-Some.flat } }) c.in-Rests.is c.in-Some.flat (search rules) refl
