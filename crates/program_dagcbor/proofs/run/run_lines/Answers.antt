use Rattle.std.proofs.Common.{rules, arith, ◌≡◌, false, Ok, ap}
use Rattle.std.proofs.lemmas.Result.{err_from_is_err_and}
use Rattle.program_dagcbor.proofs.Answering.{answered_none, answered_next, answered_some, answered_so_far, end_told, last_ended}
use Rattle.program_dagcbor.proofs.run.run_lines.Goals as goal

pub loop-fills-init : goal.loop-fills-init
loop-fills-init g c = record { few = omega arith; answered = answered_none _ _ _ _ c.new.ensures.items }

pub loop-fills-preserved : goal.loop-fills-preserved
loop-fills-preserved g c =
    let k = c.in_ok-more.ensures.answered in
    record {
      few = c.in_ok-more.ensures.most;
      answered = answered_next c.loop-fills.buffers.lines k.0 c.answer_fill.new.buffers.lines c.args.command _ _ _ _ _ _ k.1 c.loop-fills.invariant.answered k.2;
    }

pub returns-in_err-more : goal.returns-in_err-more
returns-in_err-more g c =
    let p = err_from_is_err_and c.from_residual.result c.from_residual.ensures.1 in
    rw (p.1, p.2) (answered_some c.loop-fills.buffers.lines c.args.command c.in_err-more.field-0.0 _ _ _ _ _ _ c.loop-fills.invariant.answered c.in_err-more.ensures.broken)

pub returns-then-not-more : goal.returns-then-not-more
returns-then-not-more g c =
    let none : c.in_ok-more.more ≡ false = search rules in
    let k = c.in_ok-more.ensures.answered in
    let now = c.answer_fill.new.buffers.lines in
    let so_far = answered_next c.loop-fills.buffers.lines k.0 now c.args.command _ _ _ _ _ _ k.1 c.loop-fills.invariant.answered k.2 in
    let end = end_told c.loop-fills.buffers.lines c.args.command _ _ _ _ _ _ c.loop-fills.invariant.answered (c.in_ok-more.ensures.end (ap Ok none)) in
    last_ended now c.args.command c.answer_last.result _ _ _ _ _ _ c.in_ok-more.ensures.most c.answer_fill.new.buffers.one_line so_far end c.answer_last.ensures.answered c.answer_last.ensures.broken c.answer_last.ensures.nothing

pub returns : goal.returns
returns g c = answered_so_far c.loop-fills.buffers.lines _ _ _ _ _ _ c.loop-fills.buffers.one_line c.loop-fills.invariant.answered
