use Rattle.std.proofs.Common.{◌≡◌, ◌++◌, ◌+◌, ◌≤◌, ◌<◌, ℕ, List, length}
use Rattle.program_dagcbor.specs.Answers.{AppendsAnswers, most_lines}
use Rattle.program_dagcbor.proofs.run.answer_shown.Given as goal

abbrev pub invariant-loop-at : goal.invariant-loop-at
invariant-loop-at l = record {
  shorter : length l.rest ≤ length l.shown;
  few : l.buffers.lines < most_lines;
  answered : (done : List (List ℕ)) × (l.buffers.lines ≡ l.fn.buffers.lines + length done)
      × AppendsAnswers l.command done (l.fn.buffers.partial.items ++ l.shown) (l.buffers.partial.items ++ l.rest) l.fn.buffers.out.items l.buffers.out.items;
}

abbrev pub decreases-loop-at : goal.decreases-loop-at
decreases-loop-at l = length l.rest
