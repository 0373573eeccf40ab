use Rattle.std.proofs.Common.{◌≤◌, List, ℕ, length}
use Rattle.dagcbor_decode.specs.Rows.{HoldsLinks}
use Rattle.dagcbor_decode.proofs.links.next_link.Given as goal

abbrev pub invariant-loop-major : goal.invariant-loop-major
invariant-loop-major l = ((links : List (List ℕ)) → HoldsLinks l.items links → HoldsLinks l.rest links) × (length l.rest ≤ length l.items)

abbrev pub decreases-loop-major : goal.decreases-loop-major
decreases-loop-major l = length l.rest
