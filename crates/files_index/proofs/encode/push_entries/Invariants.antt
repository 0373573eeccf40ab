use Rattle.std.proofs.Common.{◌≡◌, ◌++◌, take, flat_map}
use Rattle.files_index.specs.Index.{entry_bytes}
use Rattle.files_index.proofs.encode.push_entries.Given as goal

abbrev pub invariant-loop-entry : goal.invariant-loop-entry
invariant-loop-entry l = l.out.items ≡ l.initial.out.items ++ flat_map entry_bytes (take l.entry-index l.entries)
