use Rattle.std.proofs.Common.{rules}
use Rattle.dagcbor_read.specs.Streams.{stream_state}
use Rattle.dagcbor_read.proofs.Streaming.{progressing}
use Rattle.dagcbor_read.proofs.stream.StreamDeserializerIterator.next.Goals as goal

pub returns-clause-steps : goal.returns-clause-steps
returns-clause-steps g c = (search rules, search rules)

pub returns-clause-goes : goal.returns-clause-goes
returns-clause-goes g c = progressing _ g.T.Shown.meaning g.T.Shown.shape _ (λ s. tt) (stream_state g.R.Read.reading) _ _ _ (returns-clause-steps g c).0
