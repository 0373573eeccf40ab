use Rattle.std.proofs.Common.{◌-◌}
use Rattle.files_index.specs.Entries.{bucket}
use Rattle.files_index.proofs.Parts.{Going}
use Rattle.files_index.proofs.entries.push_widths.Given as goal

abbrev pub invariant-loop-number : goal.invariant-loop-number
invariant-loop-number g l = Going (bucket l.code) l.count (l.count - l._number) (g.R.Read.remaining l.initial.input) l.initial.entries.items l.entries.items l.last (g.R.Read.remaining l.input)
