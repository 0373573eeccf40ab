use Rattle.types_serde.proofs.Closing.{map_begun}
use Rattle.types_serde.proofs.Opening.{ok_then}
use Rattle.types_serde.proofs.sink.Sink.begin_map.Goals as goal

pub returns-in_default : goal.returns-in_default
returns-in_default c = ok_then c.args.self.now c.open.new.self c.open.result (map_begun c.args.self.now c.open.new.self c.in_default.not-WantsMap) c.open.ensures
