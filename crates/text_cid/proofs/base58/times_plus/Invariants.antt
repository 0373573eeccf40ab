use Rattle.text_cid.proofs.Numbers58.{IsMultiplying}
use Rattle.text_cid.proofs.base58.times_plus.Given as goal

abbrev pub invariant-loop-digit : goal.invariant-loop-digit
invariant-loop-digit l = IsMultiplying l.base l.times l.plus l.digits l.out.items l.carry l.digit-index
