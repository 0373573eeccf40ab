use Rattle.std.proofs.Common.{arith}
use Rattle.files_car.proofs.Starting.{skip_more}
use Rattle.files_car.proofs.pull.skip_pieces.Goals as goal

pub loop-more-preserved : goal.loop-more-preserved
loop-more-preserved g c = skip_more c.in_ok-_bytes._bytes.items c.loop-more.invariant (omega (arith, c.min-piece.ensures)) c.in_ok-_bytes.ensures.taken.0 c.in_ok-_bytes.ensures.taken.1 c.in_ok-_bytes.ensures.looked c.pull_short.ensures.at_most
