use Rattle.dagcbor_write.proofs.Fields.{one_given}
use Rattle.dagcbor_write.proofs.row.FieldFieldRow.push_fields.Goals as goal

pub returns-clause-entries : goal.returns-clause-entries
returns-clause-entries g c = one_given _ _ _ _ c.serialize_field.ensures.entry.joins c.serialize_field.ensures.entry.kept
