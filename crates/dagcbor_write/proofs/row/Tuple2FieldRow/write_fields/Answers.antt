use Rattle.dagcbor_heads.proofs.Writing.{next_part, exit_part, last_part}
use Rattle.dagcbor_write.specs.Maps.{LacksValue}
use Rattle.dagcbor_write.proofs.Joining.{begin_rows, rows_good, lacks_first, lacks_second, first_empty, second_empty, never_ok}
use Rattle.dagcbor_write.proofs.Messages.{exit_tells, message_tells}
use Rattle.dagcbor_write.proofs.row.Tuple2FieldRow.write_fields.Goals as goal

pub returns-in_err-write_fields-clause-written : goal.returns-in_err-write_fields-clause-written
returns-in_err-write_fields-clause-written g c =
    let ps = g.A.FieldRow.pairs c.args.self.now.0 in
    let qs = g.B.FieldRow.pairs c.args.self.now.1 in
    let both = g.A.FieldRow.joins c.args.self.now.0 qs in
    exit_part (begin_rows _ ps qs both _) _ _ _ c.from_residual.ensures.1 c.in_err-write_fields.ensures.written

pub returns-in_err-write_fields-clause-message : goal.returns-in_err-write_fields-clause-message
returns-in_err-write_fields-clause-message g c =
    let ps = g.A.FieldRow.pairs c.args.self.now.0 in
    let qs = g.B.FieldRow.pairs c.args.self.now.1 in
    let both = g.A.FieldRow.joins c.args.self.now.0 qs in
    exit_tells (λ _. LacksValue ps) _ _ _ c.from_residual.ensures.1 (λ m. lacks_first _ ps qs both) c.in_err-write_fields.ensures.message

pub returns-in_err-write_fields-clause-empty : goal.returns-in_err-write_fields-clause-empty
returns-in_err-write_fields-clause-empty g c none =
    let ps = g.A.FieldRow.pairs c.args.self.now.0 in
    let qs = g.B.FieldRow.pairs c.args.self.now.1 in
    let both = g.A.FieldRow.joins c.args.self.now.0 qs in
    never_ok c.write_fields.result _ c.in_err-write_fields.was (c.write_fields.ensures.empty (first_empty _ ps qs both none))

pub returns-clause-written : goal.returns-clause-written
returns-clause-written g c =
    let ps = g.A.FieldRow.pairs c.args.self.now.0 in
    let qs = g.B.FieldRow.pairs c.args.self.now.1 in
    let both = g.A.FieldRow.joins c.args.self.now.0 qs in
    last_part (next_part (begin_rows _ ps qs both _) _ c.in_ok-write_fields.ensures.written) _ _ c.write_fields-2.ensures.written

pub returns-clause-well_formed : goal.returns-clause-well_formed
returns-clause-well_formed g c =
    let ps = g.A.FieldRow.pairs c.args.self.now.0 in
    let qs = g.B.FieldRow.pairs c.args.self.now.1 in
    let both = g.A.FieldRow.joins c.args.self.now.0 qs in
    rows_good _ ps qs both _ c.in_ok-write_fields.ensures.well_formed c.write_fields-2.ensures.well_formed

pub returns-clause-message : goal.returns-clause-message
returns-clause-message g c =
    let ps = g.A.FieldRow.pairs c.args.self.now.0 in
    let qs = g.B.FieldRow.pairs c.args.self.now.1 in
    let both = g.A.FieldRow.joins c.args.self.now.0 qs in
    message_tells (λ _. LacksValue qs) _ _ (λ m. lacks_second _ ps qs both) c.write_fields-2.ensures.message

pub returns-clause-empty : goal.returns-clause-empty
returns-clause-empty g c none =
    let ps = g.A.FieldRow.pairs c.args.self.now.0 in
    let qs = g.B.FieldRow.pairs c.args.self.now.1 in
    let both = g.A.FieldRow.joins c.args.self.now.0 qs in
    c.write_fields-2.ensures.empty (second_empty _ ps qs both none)
