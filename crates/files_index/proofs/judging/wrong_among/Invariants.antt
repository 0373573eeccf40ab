use Rattle.std.proofs.Common.{◌≡◌, take, not}
use Rattle.std.specs.List.{filter}
use Rattle.files_index.specs.Judging.{is_entry_of}
use Rattle.files_index.proofs.judging.wrong_among.Given as goal

abbrev pub invariant-loop-entry : goal.invariant-loop-entry
invariant-loop-entry l = l.wrong.items ≡ filter (λ e. not (is_entry_of l.right e)) (take l.entry-index l.entries)
