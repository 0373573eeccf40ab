use Rattle.std.proofs.Common.{arith}
use Rattle.files_car.proofs.HeaderShape.{one_link_passed, no_link_there, all_links_passed}
use Rattle.files_car.proofs.header.after_links.Goals as goal

pub returns-in_err-rest : goal.returns-in_err-rest
returns-in_err-rest c = rw c.from_residual.ensures (no_link_there _ _ _ _ (omega arith) c.loop-more.invariant c.in_err-rest.ensures)

pub loop-more-preserved : goal.loop-more-preserved
loop-more-preserved c = let k = c.in_ok-rest.ensures in one_link_passed _ _ k.0 _ _ _ (omega arith) c.loop-more.invariant k.1

pub returns : goal.returns
returns c = all_links_passed _ _ _ _ (omega arith) c.loop-more.invariant
