use Rattle.std.proofs.Common.{◌≡◌, ◌+◌, drop, length}
use Rattle.atproto_events.specs.Pieces.{pieces, lower_pieces}
use Rattle.atproto_events.proofs.pieces.count_lower.Given as goal

abbrev pub invariant-loop-piece : goal.invariant-loop-piece
invariant-loop-piece l = record {
  count : l.count ≡ l.piece-index;
  rest : length (lower_pieces l.layer (pieces l.all)) ≡ l.piece-index + length (lower_pieces l.layer (pieces (drop l.piece-index l.all)));
}
