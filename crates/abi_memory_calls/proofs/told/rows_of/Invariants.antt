use Rattle.std.proofs.Common.{◌≡◌, take, map}
use Rattle.atproto_mst.specs.Entries.{entries}
use Rattle.abi_memory_calls.specs.Blocks.{entry_of_row}
use Rattle.abi_memory_calls.proofs.told.rows_of.Given as goal

abbrev pub invariant-loop-record : goal.invariant-loop-record
invariant-loop-record l = map entry_of_row l.rows.items ≡ entries (take l.record-index l.records)
