use Rattle.std.proofs.Common.{arith}
use Rattle.dagcbor_write.specs.Maps.{LacksValue}
use Rattle.dagcbor_write.proofs.Joining.{in_first, in_second, lacks_first, lacks_second, rows_count}
use Rattle.dagcbor_write.proofs.Messages.{message_tells}
use Rattle.dagcbor_write.proofs.row.Tuple2FieldRow.write_field.Goals as goal

pub returns-in-Some-clause-written : goal.returns-in-Some-clause-written
returns-in-Some-clause-written g c =
    let ps = g.A.FieldRow.pairs c.args.self.now.0 in
    let qs = g.B.FieldRow.pairs c.args.self.now.1 in
    let both = g.A.FieldRow.joins c.args.self.now.0 qs in
    rw (in_second _ ps qs both _ _ c.in-Some.ensures) c.write_field.ensures.written

pub returns-in-Some-clause-well_formed : goal.returns-in-Some-clause-well_formed
returns-in-Some-clause-well_formed g c =
    let ps = g.A.FieldRow.pairs c.args.self.now.0 in
    let qs = g.B.FieldRow.pairs c.args.self.now.1 in
    let both = g.A.FieldRow.joins c.args.self.now.0 qs in
    rw (in_second _ ps qs both _ _ c.in-Some.ensures) c.write_field.ensures.well_formed

pub returns-in-Some-clause-message : goal.returns-in-Some-clause-message
returns-in-Some-clause-message g c within =
    let ps = g.A.FieldRow.pairs c.args.self.now.0 in
    let qs = g.B.FieldRow.pairs c.args.self.now.1 in
    let both = g.A.FieldRow.joins c.args.self.now.0 qs in
    message_tells (λ _. LacksValue qs) _ _ (λ m. lacks_second _ ps qs both)
    (c.write_field.ensures.message (omega (arith, within, rows_count _ ps qs both, c.in-Some.ensures)))

pub returns-in-Some-clause-none : goal.returns-in-Some-clause-none
returns-in-Some-clause-none g c past =
    let ps = g.A.FieldRow.pairs c.args.self.now.0 in
    let qs = g.B.FieldRow.pairs c.args.self.now.1 in
    let both = g.A.FieldRow.joins c.args.self.now.0 qs in
    c.write_field.ensures.none (omega (arith, past, rows_count _ ps qs both, c.in-Some.ensures))

pub returns-in-None-clause-written : goal.returns-in-None-clause-written
returns-in-None-clause-written g c =
    let ps = g.A.FieldRow.pairs c.args.self.now.0 in
    let qs = g.B.FieldRow.pairs c.args.self.now.1 in
    let both = g.A.FieldRow.joins c.args.self.now.0 qs in
    rw (in_first _ ps qs both _ c.in-None.ensures) c.write_field-in-None.ensures.written

pub returns-in-None-clause-well_formed : goal.returns-in-None-clause-well_formed
returns-in-None-clause-well_formed g c =
    let ps = g.A.FieldRow.pairs c.args.self.now.0 in
    let qs = g.B.FieldRow.pairs c.args.self.now.1 in
    let both = g.A.FieldRow.joins c.args.self.now.0 qs in
    rw (in_first _ ps qs both _ c.in-None.ensures) c.write_field-in-None.ensures.well_formed

pub returns-in-None-clause-message : goal.returns-in-None-clause-message
returns-in-None-clause-message g c within =
    let ps = g.A.FieldRow.pairs c.args.self.now.0 in
    let qs = g.B.FieldRow.pairs c.args.self.now.1 in
    let both = g.A.FieldRow.joins c.args.self.now.0 qs in
    message_tells (λ _. LacksValue ps) _ _ (λ m. lacks_first _ ps qs both)
    (c.write_field-in-None.ensures.message c.in-None.ensures)

pub returns-in-None-clause-none : goal.returns-in-None-clause-none
returns-in-None-clause-none g c past =
    let ps = g.A.FieldRow.pairs c.args.self.now.0 in
    let qs = g.B.FieldRow.pairs c.args.self.now.1 in
    let both = g.A.FieldRow.joins c.args.self.now.0 qs in
    absurd (omega (arith, past, rows_count _ ps qs both, c.in-None.ensures))
