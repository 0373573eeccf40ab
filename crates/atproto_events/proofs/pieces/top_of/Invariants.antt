use Rattle.std.proofs.Common.{◌≡◌, drop}
use Rattle.std.specs.Prelude.{max}
use Rattle.atproto_events.specs.Pieces.{pieces, top_piece}
use Rattle.atproto_events.proofs.pieces.top_of.Given as goal

abbrev pub invariant-loop-piece : goal.invariant-loop-piece
invariant-loop-piece l = top_piece (pieces l.all) ≡ max l.top (top_piece (pieces (drop l.piece-index l.all)))
