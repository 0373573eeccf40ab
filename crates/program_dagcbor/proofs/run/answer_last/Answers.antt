use Rattle.std.proofs.Common.{rules, ◌<◌, length}
use Rattle.std.specs.Str.Lines.{lines}
use Rattle.program_dagcbor.proofs.Answering.{answer_is, on_err, last_answered, last_begun}
use Rattle.program_dagcbor.proofs.run.answer_last.Goals as goal

pub returns-clause-answered : goal.returns-clause-answered
returns-clause-answered g c =
    let some : 0 < length c.args.buffers.now.partial.items = search rules in
    let is = answer_is c.args.command _ _ _ _ _ c.deref.ensures.value c.clear.ensures.items c.deref-2.ensures.value some c.args.buffers.now.one_line c.in_ok-push_answer.ensures.written in
    last_answered c.args.command c.write_all.result (lines c.args.buffers.now.partial.items) _ _ _ is c.write_all.ensures.written

pub returns-clause-broken : goal.returns-clause-broken
returns-clause-broken g c =
    let some : 0 < length c.args.buffers.now.partial.items = search rules in
    let is = answer_is c.args.command _ _ _ _ _ c.deref.ensures.value c.clear.ensures.items c.deref-2.ensures.value some c.args.buffers.now.one_line c.in_ok-push_answer.ensures.written in
    on_err c.write_all.result (last_begun c.args.command c.write_all.result (lines c.args.buffers.now.partial.items) _ _ _ is c.write_all.ensures.written)
