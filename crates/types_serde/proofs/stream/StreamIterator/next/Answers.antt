use Rattle.std.proofs.Common.{rules}
use Rattle.types_serde.specs.Streams.{stream_state}
use Rattle.types_serde.proofs.Streaming.{progressing}
use Rattle.types_serde.proofs.stream.StreamIterator.next.Goals as goal

pub returns-clause-steps : goal.returns-clause-steps
returns-clause-steps g c = search rules

pub returns-clause-goes : goal.returns-clause-goes
returns-clause-goes g c = progressing _ _ _ (λ s. tt) (stream_state g.R.Read.reading) _ _ _ (returns-clause-steps g c)
