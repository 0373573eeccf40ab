use Rattle.std.proofs.Common.{◌≤◌, ◌-◌, length, take, drop}
use Rattle.atproto_events.specs.Pieces.{pieces}
use Rattle.atproto_events.specs.Undone.{from_entry, EndsBefore, IsNotBefore}
use Rattle.atproto_events.proofs.pieces.find_place.Given as goal

abbrev pub invariant-loop-low : goal.invariant-loop-low
invariant-loop-low l = record {
  within : l.low ≤ l.high;
  bound : l.high ≤ length l.all;
  front : EndsBefore l.key (take l.low (pieces l.all));
  rest : IsNotBefore l.key (from_entry (drop l.high (pieces l.all)));
}

abbrev pub decreases-loop-low : goal.decreases-loop-low
decreases-loop-low l = l.high - l.low
