use Rattle.dagcbor_items.specs.LeafReads.{ReadsIgnored}
use Rattle.dagcbor_read.proofs.Ignoring.{ignored_refused}
use Rattle.dagcbor_read.proofs.Progressing.{begun_and_refused}
use Rattle.dagcbor_read.proofs.deserializer.Deserializer.deserialize_ignored_any.Goals as goal

pub returns-in_err-value-clause-item : goal.returns-in_err-value-clause-item
returns-in_err-value-clause-item g c = begun_and_refused ReadsIgnored _ _ _ _ _ c.in_ok-begin.ensures c.from_residual-in_err-value.ensures.1 (ignored_refused _ _ _ c.in_err-value.ensures.item)
