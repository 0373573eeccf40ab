use Rattle.std.proofs.Common.{rules, arith, ◌++◌, ◌∷◌, ◌-◌, ◌+◌, ℕ, List, [], length, take, drop, length-drop, length-take, length-append, refl, sym, subst}
use Rattle.std.specs.Str.Lines.{strip_carriage_return}
use Rattle.program_dagcbor.specs.Answers.{AppendsAnswers, BeginsWithLines}
use Rattle.program_dagcbor.proofs.Answering.{appends_next}
use Rattle.program_dagcbor.proofs.Lines.{begins_line}
use Rattle.program_dagcbor.proofs.run.answer_shown.Goals as goal

pub returns-in_err-answer_line-clause-some : goal.returns-in_err-answer_line-clause-some
returns-in_err-answer_line-clause-some c =
    let left = c.loop-at.buffers.partial.items ++ c.loop-at.rest.now in
    let text = c.args.buffers.now.partial.items ++ c.args.shown.now in
    let h = c.loop-at.invariant.answered in
    (h.0, left, omega (arith, h.1, c.in_err-answer_line.ensures.lines), subst (λ (s : List ℕ). AppendsAnswers c.args.command h.0 text left c.args.buffers.now.out.items s) (sym c.in_err-answer_line.ensures.same) h.2)

pub loop-at-preserved : goal.loop-at-preserved
loop-at-preserved c =
    let partial = c.loop-at.buffers.partial.items in
    let rest = c.loop-at.rest.now in
    let at = c.in-Some.at in
    let following = take (length rest - (at + 1)) (drop (at + 1) rest) in
    let line = strip_carriage_return (partial ++ take at rest) in
    let found = c.in-Some.ensures in
    let h = c.loop-at.invariant.answered in
    let next = subst (λ (s : List ℕ). BeginsWithLines (partial ++ rest) (line ∷ []) (s ++ following)) (sym c.in_ok-answer_line.ensures.emptied)
    (begins_line partial rest following at c.loop-at.buffers.one_line found.2 found.0 found.1 refl) in
    record {
      shorter = omega (arith, c.loop-at.invariant.shorter, length-take (length rest - (at + 1)) (drop (at + 1) rest), length-drop (at + 1) rest);
      few = search rules;
      answered = (h.0 ++ line ∷ [], omega (arith, h.1, c.in_ok-answer_line.ensures.lines, length-append h.0 (line ∷ [])), appends_next c.args.command h.0 (c.args.buffers.now.partial.items ++ c.args.shown.now) (partial ++ rest) (c.answer_line.new.buffers.partial.items ++ following) line _ _ _ h.2 next c.in_ok-answer_line.ensures.written);
    }

pub returns-then-buffers-clause-some : goal.returns-then-buffers-clause-some
returns-then-buffers-clause-some c =
    let partial = c.loop-at.buffers.partial.items in
    let rest = c.loop-at.rest.now in
    let at = c.in-Some.at in
    let following = take (length rest - (at + 1)) (drop (at + 1) rest) in
    let line = strip_carriage_return (partial ++ take at rest) in
    let found = c.in-Some.ensures in
    let h = c.loop-at.invariant.answered in
    let next = subst (λ (s : List ℕ). BeginsWithLines (partial ++ rest) (line ∷ []) (s ++ following)) (sym c.in_ok-answer_line.ensures.emptied)
    (begins_line partial rest following at c.loop-at.buffers.one_line found.2 found.0 found.1 refl) in
    (h.0 ++ line ∷ [], c.answer_line.new.buffers.partial.items ++ following, omega (arith, h.1, c.in_ok-answer_line.ensures.lines, length-append h.0 (line ∷ [])), appends_next c.args.command h.0 (c.args.buffers.now.partial.items ++ c.args.shown.now) (partial ++ rest) (c.answer_line.new.buffers.partial.items ++ following) line _ _ _ h.2 next c.in_ok-answer_line.ensures.written)
