use Rattle.std.proofs.Common.{◌+◌, ◌*◌, option_map}
use Rattle.abi_calls.proofs.JudgedTapes.{TellsItems, TellsEntries}
use Rattle.abi_calls.proofs.judge.+judge.Given as goal

abbrev pub decreases-after_item : goal.decreases-after_item
decreases-after_item l = 2 * l.steps

abbrev pub decreases-after_items : goal.decreases-after_items
decreases-after_items l = 2 * l.steps + 1

abbrev pub decreases-after_entries : goal.decreases-after_entries
decreases-after_entries l = 2 * l.steps + 1

abbrev pub decreases-after_items-loop-more : goal.decreases-after_items-loop-more
decreases-after_items-loop-more l = l.more

abbrev pub decreases-after_entries-loop-more : goal.decreases-after_entries-loop-more
decreases-after_entries-loop-more l = l.more

abbrev pub invariant-after_items-loop-more : goal.invariant-after_items-loop-more
invariant-after_items-loop-more l = TellsItems l.bytes l.tape l.at l.next l.count l.more l.steps l.initial.room l.room

abbrev pub invariant-after_entries-loop-more : goal.invariant-after_entries-loop-more
invariant-after_entries-loop-more l = TellsEntries l.bytes l.tape (option_map (λ s. s.now) l.previous) l.at l.next l.count l.more l.steps l.initial.room l.room
