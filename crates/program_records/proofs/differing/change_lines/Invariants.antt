use Rattle.std.proofs.Common.{◌≡◌, take, flat_map}
use Rattle.atproto_mst.specs.Changes.{changes}
use Rattle.program_records.specs.Differing.{change_line}
use Rattle.program_records.proofs.differing.change_lines.Given as goal

abbrev pub invariant-loop-change : goal.invariant-loop-change
invariant-loop-change l = l.lines.items ≡ flat_map change_line (changes (take l.change-index l.found))
