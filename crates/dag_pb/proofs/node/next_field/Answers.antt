use Rattle.dag_pb.proofs.Fields.{empty_there, some_there}
use Rattle.dag_pb.proofs.Reading.{field_stands, field_found}
use Rattle.dag_pb.proofs.Rows.{row_over}
use Rattle.dag_pb.proofs.node.next_field.Goals as goal

pub returns-then-is_empty-clause-field : goal.returns-then-is_empty-clause-field
returns-then-is_empty-clause-field c row h = row_over c.args.fields.now row (empty_there c.args.fields.now c.is_empty.result c.is_empty.ensures c.if-is_empty.true) h

pub unreachable-requires : goal.unreachable-requires
unreachable-requires c =
    field_stands c.args.fields.now (some_there c.args.fields.now c.is_empty.result c.is_empty.ensures c.if-is_empty.false) c.in_default.ensures.0 c.requires

pub returns-clause-field : goal.returns-clause-field
returns-clause-field c row h = field_found c.args.fields.now _ _ row c.in-Ok.ensures h
