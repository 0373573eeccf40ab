use Rattle.types_serde.proofs.Closing.{list_begun}
use Rattle.types_serde.proofs.Opening.{ok_then}
use Rattle.types_serde.proofs.sink.Sink.begin_seq.Goals as goal

pub returns : goal.returns
returns c = ok_then c.args.self.now c.open.new.self c.open.result (list_begun c.args.self.now c.open.new.self) c.open.ensures
