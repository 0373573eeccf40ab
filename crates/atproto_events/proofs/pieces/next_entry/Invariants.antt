use Rattle.std.proofs.Common.{◌≡◌, ◌≤◌, ◌-◌, length, drop}
use Rattle.atproto_events.specs.Pieces.{pieces}
use Rattle.atproto_events.specs.Undone.{from_entry}
use Rattle.atproto_events.proofs.pieces.next_entry.Given as goal

abbrev pub invariant-loop-at : goal.invariant-loop-at
invariant-loop-at l = record {
  after : l.from ≤ l.at;
  bound : l.at ≤ length l.all;
  skipped : from_entry (drop l.at (pieces l.all)) ≡ from_entry (drop l.from (pieces l.all));
}

abbrev pub decreases-loop-at : goal.decreases-loop-at
decreases-loop-at l = length l.all - l.at
