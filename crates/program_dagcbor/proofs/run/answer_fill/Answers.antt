use Rattle.std.proofs.Common.{◌++◌, length, refl, subst}
use Rattle.std.proofs.lemmas.Result.{err_from_is_err_and}
use Rattle.program_shared.specs.declared.fault.ToolError.TheVariants.{Output}
use Rattle.program_dagcbor.specs.Answers.{MayEndAfter}
use Rattle.program_dagcbor.proofs.Answering.{answers_are, consumed_shown, fill_answered, fill_begun, fill_stopped, fill_until, fill_written}
use Rattle.program_dagcbor.proofs.run.answer_fill.Goals as goal

pub returns-in_err-write_all-clause-broken : goal.returns-in_err-write_all-clause-broken
returns-in_err-write_all-clause-broken g c =
    let text = c.args.buffers.now.partial.items ++ c.in-Ok.shown.now in
    let some = c.answer_shown-answered.ensures.some in
    let a = answers_are c.args.command some.0 text some.1 _ _ _ c.clear.ensures.items c.deref.ensures.value some.3 in
    let w = c.in_err-write_all.ensures.written in
    let p = err_from_is_err_and c.from_residual.result c.from_residual.ensures.1 in
    rw (p.1, p.2, c.in_err-write_all.ensures.fault) (fill_stopped c.args.command Output c.args.buffers.now.lines _ _ _ _ _ c.args.buffers.now.one_line c.fill_buf.follows.holds-at-none.0 (fill_begun c.args.command some.0 _ _ _ _ c.in-Ok.shown.now some.1 _ w.0 w.1 c.in-Ok.ensures.front a w.2 w.3))

pub returns-in_err-answered : goal.returns-in_err-answered
returns-in_err-answered g c =
    let text = c.args.buffers.now.partial.items ++ c.in-Ok.shown.now in
    let some = c.answer_shown-answered.ensures.some in
    let a = answers_are c.args.command some.0 text some.1 _ _ _ c.clear.ensures.items c.deref.ensures.value some.3 in
    let w = c.in_ok-write_all.ensures.written in
    let p = err_from_is_err_and c.from_residual-in_err-answered.result c.from_residual-in_err-answered.ensures.1 in
    let e = c.in_err-answered.field-0.0 in
    rw (p.1, p.2) (record {
      answered = tt;
      most = tt;
      end = λ e. absurd (cc e);
      broken = fill_stopped c.args.command e c.args.buffers.now.lines _ _ _ _ _ c.args.buffers.now.one_line c.fill_buf.follows.holds-at-none.0
          (fill_until c.args.command e c.args.buffers.now.lines (length some.0) _ _ _ _ c.in_err-answered.ensures.inner (subst (λ n. MayEndAfter n e) some.2 c.in_err-answered.ensures.cause)
          (fill_written c.args.command some.0 _ _ _ _ c.in-Ok.shown.now some.1 _ w.0 w.1 c.in-Ok.ensures.front a w.2 w.3 w.4));
    })

pub returns-clause-answered : goal.returns-clause-answered
returns-clause-answered g c =
    let text = c.args.buffers.now.partial.items ++ c.in-Ok.shown.now in
    let all = c.in_ok-answered.ensures.answered in
    let a = answers_are c.args.command all.0 text c.answer_shown-answered.new.buffers.partial.items _ _ _ c.clear.ensures.items c.deref.ensures.value all.2 in
    let w = c.in_ok-write_all.ensures.written in
    let taken = consumed_shown _ _ _ _ _ c.in-Ok.shown _ c.in-Ok.is c.in-Ok.ensures.front c.fill_buf.follows.holds-at-none c.consume.ensures.bytes refl in
    (length all.0, all.1, fill_answered c.args.command all.0 _ _ _ _ _ c.in-Ok.shown.now _ _ w.0 w.1 taken a w.2 w.3 w.4)
