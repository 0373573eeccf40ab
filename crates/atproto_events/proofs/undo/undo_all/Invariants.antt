use Rattle.std.proofs.Common.{◌≤◌, length, drop}
use Rattle.atproto_mst.specs.Changes.{changes}
use Rattle.atproto_events.specs.Pieces.{pieces}
use Rattle.atproto_events.specs.Undone.{ArePlaced, StepsBackAll}
use Rattle.atproto_events.proofs.undo.undo_all.Given as goal

abbrev pub invariant-loop-left : goal.invariant-loop-left
invariant-loop-left l = record {
  bound : l.left ≤ length l.done;
  placed : ArePlaced (pieces l.all.items);
  undone : StepsBackAll (changes (drop l.left l.done)) (pieces l.fn.all.items) (pieces l.all.items);
}

abbrev pub decreases-loop-left : goal.decreases-loop-left
decreases-loop-left l = l.left
