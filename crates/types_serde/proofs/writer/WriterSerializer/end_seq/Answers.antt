use Rattle.types_serde.proofs.Logs.{follows_more}
use Rattle.types_serde.proofs.writer.WriterSerializer.end_seq.Goals as goal

pub invariant_of-self-2 : goal.invariant_of-self-2
invariant_of-self-2 c = record { follows = follows_more _ _ _ _ _ _ c.args.self.now.follows c.in_default.ensures c.then-self.ensures }
