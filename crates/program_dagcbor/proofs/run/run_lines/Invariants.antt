use Rattle.std.proofs.Common.{◌<◌, ◌*◌, ◌-◌, ◌^◌, IfSome}
use Rattle.std.specs.Io.KnownBytes.{prepend_known}
use Rattle.program_dagcbor.specs.Answers.{HasAnswered, most_lines}
use Rattle.program_dagcbor.proofs.run.run_lines.Given as goal

abbrev pub invariant-loop-fills : goal.invariant-loop-fills
invariant-loop-fills g l = record {
  few : l.buffers.lines < most_lines;
  answered : IfSome (g.R.Read.remaining l.initial.reader) (λ input. HasAnswered l.command l.buffers.lines input (prepend_known l.buffers.partial.items (g.R.Read.remaining l.reader)) (g.W.Write.contents l.initial.writer) (g.W.Write.contents l.writer));
}

abbrev pub decreases-loop-fills : goal.decreases-loop-fills
decreases-loop-fills g l = (2 ^ 64 - l.buffers.lines) * 2 ^ 64 - l.fills
