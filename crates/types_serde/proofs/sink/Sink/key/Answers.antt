use Rattle.std.proofs.Common.{rules}
use Rattle.types_serde.proofs.Leaves.{good_text}
use Rattle.types_serde.proofs.Opening.{name_wait}
use Rattle.types_serde.proofs.sink.Sink.key.Goals as goal

pub returns-in-Rests-clause-moved : goal.returns-in-Rests-clause-moved
returns-in-Rests-clause-moved c = name_wait c.args.self.now c.wait.new.self c.wait.result c.args.v.now _ (good_text c.args.v.now (search rules) c.wait.ensures.text) c.in-Rests.is c.wait.ensures.top c.wait.ensures.bytes c.wait.ensures.rest
