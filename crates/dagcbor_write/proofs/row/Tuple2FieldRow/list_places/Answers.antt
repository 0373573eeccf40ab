use Rattle.std.proofs.Common.{rules}
use Rattle.dagcbor_write.proofs.Joining.{rows_listed}
use Rattle.dagcbor_write.proofs.row.Tuple2FieldRow.list_places.Goals as goal

pub returns : goal.returns
returns g c is =
    let ps = g.A.FieldRow.pairs c.args.self.now.0 in
    let qs = g.B.FieldRow.pairs c.args.self.now.1 in
    let both = g.A.FieldRow.joins c.args.self.now.0 qs in
    rows_listed _ ps qs both _ _ _ (c.if-not-list_places.ensures (search rules)) (c.list_places-2.ensures is)
