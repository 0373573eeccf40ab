use Rattle.std.proofs.Common.{length, ◌*◌, ◌+◌, ◌∷◌, ◌++◌, [], ap, arith}
use Rattle.text_cid.proofs.Numbers58.{one_written}
use Rattle.text_cid.proofs.base58.digits_of_58.Goals as goal

pub loop-symbol-preserved : goal.loop-symbol-preserved
loop-symbol-preserved c =
    let inv = c.loop-symbol.invariant in
    let next = c.times_plus-digits.ensures.product inv.2.1 (rw c.deref.ensures.0 inv.2.3) in (
      c.times_plus-digits.ensures.below,
      omega (arith, ap length c.deref.ensures.0),
      (inv.2.0 ++ c.in-Some.place ∷ [], inv.2.1 * 58 + c.in-Some.place, one_written c.args.text.now c.loop-symbol.symbol-index inv.2.0 inv.2.1 c.in-Some.place inv.2.2 c.loop-symbol-test.true c.in-Some.ensures.0 c.in-Some.ensures.1, rw c.from.ensures at next),
    )
