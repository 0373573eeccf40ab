use Rattle.types_schema.proofs.PartRows.{gap_told}
use Rattle.types_schema.proofs.part_row.Tuple2OptionalPartPartRow.write_each.Goals as goal

pub returns-else-is_empty-clause-told : goal.returns-else-is_empty-clause-told
returns-else-is_empty-clause-told g c = gap_told g.T.Serialize.tree g.T.Serialize.message (g.L.PartRow.trees c.args.self.1) (g.L.PartRow.message c.args.self.1) c.args.self.0.0.now _ c.in-None.is c.if-is_empty.ensures c.custom.ensures
