use Rattle.std.proofs.Common.{◌≡◌, take, map}
use Rattle.atproto_mst.specs.Changes.{changes}
use Rattle.abi_memory_calls.specs.EventBlocks.{change_of_row}
use Rattle.abi_memory_calls.proofs.event_told.rows_of.Given as goal

abbrev pub invariant-loop-change : goal.invariant-loop-change
invariant-loop-change l = map change_of_row l.rows.items ≡ changes (take l.change-index l.done)
