use Rattle.dagcbor_write.proofs.Joining.{both_given}
use Rattle.dagcbor_write.proofs.row.Tuple2FieldRow.push_fields.Goals as goal

pub returns-clause-entries : goal.returns-clause-entries
returns-clause-entries g c =
    let ps = g.A.FieldRow.pairs c.args.self.now.0 in
    let qs = g.B.FieldRow.pairs c.args.self.now.1 in
    let both = g.A.FieldRow.joins c.args.self.now.0 qs in
    both_given _ ps qs both _ _ _ _ c.in_ok-push_fields.ensures.entries c.push_fields-2.ensures.entries
