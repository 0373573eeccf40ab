use Rattle.std.proofs.Common.{ℕ, length, ◌*◌, ◌+◌, take, ap, sym, ◌∙◌, subst, arith}
use Rattle.std.proofs.lemmas.Int.Digits.{number_more}
use Rattle.std.specs.Int.Digits.{number_from_digits}
use Rattle.text_cid.specs.Base58.{AreDigits}
use Rattle.text_cid.proofs.base58.digits_in_58.Goals as goal

pub loop-byte-preserved : goal.loop-byte-preserved
loop-byte-preserved c =
    let so_far : ℕ = number_from_digits 256 (take c.loop-byte.byte-index c.args.bytes.now) in
    let next = c.times_plus-digits.ensures.product so_far (rw c.deref.ensures.0 c.loop-byte.invariant.0) in (
      subst (λ n. AreDigits 58 n c.times_plus-digits.result.items) (ap (λ b. so_far * 256 + b) c.from.ensures ∙ sym (number_more 256 c.args.bytes.now c.loop-byte.byte-index c.loop-byte-test.true)) next,
      c.times_plus-digits.ensures.below,
      omega (arith, ap length c.deref.ensures.0),
    )
