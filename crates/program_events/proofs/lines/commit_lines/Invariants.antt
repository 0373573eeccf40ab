use Rattle.std.proofs.Common.{◌≡◌, ◌++◌, take, flat_map}
use Rattle.atproto_mst.specs.Changes.{changes}
use Rattle.program_events.specs.Lines.{operation_line, commit_line}
use Rattle.program_events.proofs.lines.commit_lines.Given as goal

abbrev pub invariant-loop-change : goal.invariant-loop-change
invariant-loop-change l = l.lines.items ≡ commit_line l.event ++ flat_map operation_line (changes (take l.change-index l.done))
