use Rattle.std.proofs.Common.{List, ◌+◌, ◌-◌, ◌*◌, ◌^◌, ◌%◌, ◌<◌, ◌≡◌, ℕ, arith, subst, flat_map}
use Rattle.std.proofs.lemmas.Nat.{pow_below}
use Rattle.text_cid.specs.Rfc4648.{bits}
use Rattle.text_cid.proofs.Alphabet.{alphabet_length}
use Rattle.text_cid.proofs.Bits.{length-all_bits}
use Rattle.text_cid.proofs.Grouping.{IsGrouped, none_grouped, byte_next, group_out, group_below, grouped_length, whole_grouped, all_grouped}
use Rattle.text_cid.proofs.groups.push_eight.Goals as goal

-- a shift that loses no bit
unit_is : (k : ℕ) → k < 64 → (1 * 2 ^ k) % 18446744073709551616 ≡ 2 ^ k
unit_is k few = omega (arith, pow_below k 64 few)

-- the bits that are left, counted anew
eight_left : {symbols start out b : List ℕ} {rest : ℕ} (place : ℕ) → IsGrouped 5 symbols start out b (35 - 5 * place) rest → IsGrouped 5 symbols start out b (40 - 5 * (place + 1)) rest
eight_left {symbols} {start} {out} {b} {rest} place g = subst (λ h. IsGrouped 5 symbols start out b h rest) (omega arith) g

pub loop-byte-init : goal.loop-byte-init
loop-byte-init c = none_grouped 5 c.args.symbols.now c.args.out.now.items

pub overflow_mul-rest : goal.overflow_mul-rest
overflow_mul-rest c =
    let small = c.loop-byte.invariant.small in
    omega (arith, pow_below (8 * c.loop-byte.byte-index) 33 (omega arith))

pub overflow_add-rest : goal.overflow_add-rest
overflow_add-rest c =
    let small = c.loop-byte.invariant.small in
    let byte = c.fits-five c.loop-byte.byte-index in
    omega (arith, pow_below (8 * c.loop-byte.byte-index) 33 (omega arith), c.from.ensures)

pub loop-byte-preserved : goal.loop-byte-preserved
loop-byte-preserved c = rw c.from.ensures (byte_next c.args.five.now c.loop-byte.byte-index (omega (arith, c.told-five)) (c.fits-five c.loop-byte.byte-index) c.loop-byte.invariant)

pub loop-place-init : goal.loop-place-init
loop-place-init c =
    let past = c.loop-byte-test.false in
    let end = c.loop-byte.auto.byte-index-end in
    subst (λ h. IsGrouped 5 c.args.symbols.now c.args.out.now.items c.args.out.now.items (flat_map (bits 8) c.args.five.now) h c.loop-byte.rest) (omega arith)
    (whole_grouped c.args.five.now c.loop-byte.byte-index c.loop-byte.invariant (omega (arith, c.told-five)))

pub bounds-symbols-rest : goal.bounds-symbols-rest
bounds-symbols-rest c = omega (arith, group_below (35 - 5 * c.loop-place.place) ((1 * 2 ^ (35 - 5 * c.loop-place.place)) % 18446744073709551616) c.loop-place.invariant (omega arith) (unit_is (35 - 5 * c.loop-place.place) (omega arith)), alphabet_length c.args.symbols.now _ c.requires.base.alphabet)

pub push-requires : goal.push-requires
push-requires c =
    let long = grouped_length c.loop-place.invariant in
    omega (arith, long.0, long.1, length-all_bits 8 c.args.five.now, c.told-five, c.requires.room)

pub loop-place-preserved : goal.loop-place-preserved
loop-place-preserved c =
    let next = group_out (35 - 5 * c.loop-place.place) ((1 * 2 ^ (35 - 5 * c.loop-place.place)) % 18446744073709551616) c.loop-place.invariant (omega arith) (unit_is (35 - 5 * c.loop-place.place) (omega arith)) in
    rw c.push.ensures.items (eight_left c.loop-place.place next)

pub returns : goal.returns
returns c = all_grouped c.args.five.now c.loop-place.invariant (omega arith) (omega (arith, c.loop-place-test.false))
