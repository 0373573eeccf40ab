use Rattle.std.proofs.Common.{◌+◌, ◌<◌, ◌^◌, length}
use Rattle.program_sections.specs.Lists.{list_lines}
use Rattle.program_sections.proofs.Listing.{Read}
use Rattle.program_sections.proofs.names.names_in.Given as goal

abbrev pub invariant-loop-line : goal.invariant-loop-line
invariant-loop-line l = (l.number + length l.line-iterator < 2 ^ 64) × Read (list_lines l.fn.text) l.line-iterator l.number l.names.keys
