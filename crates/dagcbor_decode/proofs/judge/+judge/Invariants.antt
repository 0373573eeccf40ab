use Rattle.std.proofs.Common.{◌≡◌, ◌+◌, ◌-◌, ◌*◌, option_map, None}
use Rattle.dagcbor_decode.specs.Told.{skim}
use Rattle.dagcbor_decode.specs.Decode.{items_of, entries_of, item_of}
use Rattle.dagcbor_decode.proofs.judge.+judge.Given as goal

abbrev pub decreases-judge_item : goal.decreases-judge_item
decreases-judge_item l = 2 * l.steps + 1

abbrev pub decreases-judge_items : goal.decreases-judge_items
decreases-judge_items l = 2 * l.steps

abbrev pub decreases-judge_entries : goal.decreases-judge_entries
decreases-judge_entries l = 2 * l.steps

abbrev pub decreases-judge_items-loop-more : goal.decreases-judge_items-loop-more
decreases-judge_items-loop-more l = l.more

abbrev pub decreases-judge_entries-loop-more : goal.decreases-judge_entries-loop-more
decreases-judge_entries-loop-more l = l.more

abbrev pub invariant-judge_items-loop-more : goal.invariant-judge_items-loop-more
invariant-judge_items-loop-more l = skim (items_of (item_of (l.steps - 2)) l.count l.bytes) ≡ skim (items_of (item_of (l.steps - 2)) l.more l.rest)

abbrev pub invariant-judge_entries-loop-more : goal.invariant-judge_entries-loop-more
invariant-judge_entries-loop-more l = skim (entries_of (item_of (l.steps - 2)) l.count None l.bytes) ≡ skim (entries_of (item_of (l.steps - 2)) l.more (option_map (λ s. s.now) l.previous) l.rest)
