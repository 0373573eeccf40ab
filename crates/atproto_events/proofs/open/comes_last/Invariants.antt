use Rattle.std.proofs.Common.{◌≡◌, ◌≤◌, length, drop, None}
use Rattle.atproto_events.specs.Pieces.{pieces}
use Rattle.atproto_events.specs.Opening.{last_key}
use Rattle.atproto_events.proofs.open.comes_last.Given as goal

abbrev pub invariant-loop-at : goal.invariant-loop-at
invariant-loop-at l = record {
  bound : l.at ≤ length l.found;
  none : last_key (drop l.at (pieces l.found)) ≡ None;
}

abbrev pub decreases-loop-at : goal.decreases-loop-at
decreases-loop-at l = l.at
