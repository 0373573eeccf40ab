use Rattle.dagcbor_write.proofs.Joining.{rows_counted}
use Rattle.dagcbor_write.proofs.row.Tuple2FieldRow.count_rising.Goals as goal

pub returns : goal.returns
returns g c =
    let ps = g.A.FieldRow.pairs c.args.self.now.0 in
    let qs = g.B.FieldRow.pairs c.args.self.now.1 in
    let both = g.A.FieldRow.joins c.args.self.now.0 qs in
    rows_counted _ ps qs both _ c.args.last c.in_ok-count_rising.field-0 c.in_ok-count_rising.ensures c.count_rising-2.ensures
