use Rattle.std.proofs.Common.{◌-◌, None}
use Rattle.files_index.specs.Entries.{entry}
use Rattle.files_index.proofs.Parts.{Going}
use Rattle.files_index.proofs.entries.push_entries.Given as goal

abbrev pub invariant-loop-number : goal.invariant-loop-number
invariant-loop-number g l = Going (entry l.code (l.width - 8)) l.count (l.count - l._number) (g.R.Read.remaining l.initial.input) l.initial.entries.items l.entries.items None (g.R.Read.remaining l.input)
