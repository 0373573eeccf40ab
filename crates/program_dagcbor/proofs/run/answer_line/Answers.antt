use Rattle.std.proofs.Common.{rules, ◌≡◌, ◌++◌, ℕ, List, length, sym, ap, subst, ◌∙◌, OnOk}
use Rattle.std.specs.Str.Lines.{strip_carriage_return}
use Rattle.std.proofs.lemmas.List.{nil_from_length}
use Rattle.program_dagcbor.specs.Answers.{answer_to, AppendsLine}
use Rattle.program_dagcbor.proofs.run.answer_line.Goals as goal

pub returns-then-is_empty-clause-written : goal.returns-then-is_empty-clause-written
returns-then-is_empty-clause-written c =
    let none : length c.args.buffers.now.partial.items ≡ 0 = search rules in
    let empty = nil_from_length c.args.buffers.now.partial.items none in
    let is = c.without_return-line.ensures ∙ ap (λ (s : List ℕ). strip_carriage_return (s ++ c.args.end.now)) (sym empty) in
    subst (λ (s : List ℕ). OnOk c.push_answer.result (AppendsLine (answer_to c.args.command s) c.args.buffers.now.out.items c.push_answer.new.out.items)) is c.push_answer.ensures.written
