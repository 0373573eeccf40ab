use Rattle.std.proofs.Common.{rules}
use Rattle.serde.specs.Event as event
use Rattle.types_serde.proofs.Logs.{follows_more}
use Rattle.types_serde.proofs.writer.WriterSerializer.i128.Goals as goal

pub invariant_of-self-2 : goal.invariant_of-self-2
invariant_of-self-2 c = record { follows = follows_more _ _ (event.signed c.args.v) _ _ _ c.args.self.now.follows (search rules) (search rules) }
