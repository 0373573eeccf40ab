use Rattle.std.proofs.Common.{◌≡◌, flat_map}
use Rattle.program_parts.specs.Lines.{missing_line}
use Rattle.program_dagstore.proofs.check.missing_said.Given as goal

abbrev pub invariant-loop-name : goal.invariant-loop-name
invariant-loop-name l = l.lines.items ≡ flat_map missing_line l.yielded
