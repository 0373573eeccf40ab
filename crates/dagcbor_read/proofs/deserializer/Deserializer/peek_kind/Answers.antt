use Rattle.dagcbor_read.specs.Kinds.{PeeksKind}
use Rattle.dagcbor_read.proofs.FirstKinds.{kind_shown}
use Rattle.dagcbor_read.proofs.Progressing.{begun_and_read, begun_and_refused}
use Rattle.dagcbor_read.proofs.deserializer.Deserializer.peek_kind.Goals as goal

pub returns-in_err-value-clause-kind : goal.returns-in_err-value-clause-kind
returns-in_err-value-clause-kind g c = begun_and_refused PeeksKind _ _ _ _ _ c.in_ok-begin.ensures c.from_residual-in_err-value.ensures.1 c.in_err-value.ensures.shown

pub returns-clause-kind : goal.returns-clause-kind
returns-clause-kind g c = begun_and_read PeeksKind _ _ _ _ c.in_ok-begin.ensures (kind_shown c.in_ok-value.ensures.shown c.kind_at.ensures)
