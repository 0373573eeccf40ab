use Rattle.std.proofs.Common.{◌+◌, ◌-◌, ◌*◌, ◌^◌, ◌%◌, ◌<◌, ◌≡◌, ℕ, ◌++◌, ap, arith, subst, take, length, slice_index, flat_map}
use Rattle.std.proofs.lemmas.Nat.{pow_below}
use Rattle.text_cid.specs.Rfc4648.{bits}
use Rattle.text_cid.proofs.Alphabet.{alphabet_length}
use Rattle.text_cid.proofs.Grouping.{IsGrouped, none_grouped, byte_held, group_out, group_below, room_for_group, bits_so_far, whole_grouped, room_for_last, last_grouped, all_grouped}
use Rattle.text_cid.proofs.groups.push_groups.Goals as goal

-- a shift that loses no bit
unit_is : (k : ℕ) → k < 32 → (1 * 2 ^ k) % 4294967296 ≡ 2 ^ k
unit_is k few = omega (arith, pow_below k 32 few)

pub loop-byte-init : goal.loop-byte-init
loop-byte-init c = (none_grouped c.args.width c.args.symbols.now c.args.out.now.items, c.requires.base.some)

pub loop-held-init : goal.loop-held-init
loop-held-init c = (
  subst (λ b. IsGrouped c.args.width c.args.symbols.now c.args.out.now.items c.loop-byte.out.items (flat_map (bits 8) (take c.loop-byte.byte-index c.args.bytes.now) ++ bits 8 b) (c.loop-byte.held + 8) (c.loop-byte.rest * 256 + c.from.result)) c.from.ensures
      (byte_held c.from.result c.loop-byte.invariant.0 (omega arith)),
  omega arith,
)

pub bounds-symbols-rest : goal.bounds-symbols-rest
bounds-symbols-rest c = omega (arith, group_below (c.loop-held.held - c.args.width) ((1 * 2 ^ (c.loop-held.held - c.args.width)) % 4294967296) c.loop-held.invariant.0 (omega arith) (unit_is (c.loop-held.held - c.args.width) (omega arith)), alphabet_length c.args.symbols.now _ c.requires.base.alphabet)

pub push-requires : goal.push-requires
push-requires c =
    let some = c.requires.base.some in
    let long = bits_so_far c.args.bytes.now c.loop-byte.byte-index (slice_index c.args.bytes.now c.loop-byte.byte-index) c.loop-byte-test.true in
    omega (arith, room_for_group (length c.args.bytes.now) c.loop-held.invariant.0 some (omega arith) (omega arith) (omega arith))

pub loop-held-preserved : goal.loop-held-preserved
loop-held-preserved c = (rw c.push.ensures.items (group_out (c.loop-held.held - c.args.width) ((1 * 2 ^ (c.loop-held.held - c.args.width)) % 4294967296) c.loop-held.invariant.0 (omega arith) (unit_is (c.loop-held.held - c.args.width) (omega arith))), omega arith)

pub bounds-symbols-rest-then-held-gt0 : goal.bounds-symbols-rest-then-held-gt0
bounds-symbols-rest-then-held-gt0 c =
    let whole = whole_grouped c.args.bytes.now c.loop-byte.byte-index c.loop-byte.invariant.0 c.loop-byte-test.false in
    let last = last_grouped c.args.bytes.now (c.loop-byte.rest * ((1 * 2 ^ (c.args.width - c.loop-byte.held)) % 4294967296)) whole c.if-held-gt0.true c.loop-byte.invariant.1 (ap (λ u. c.loop-byte.rest * u) (unit_is (c.args.width - c.loop-byte.held) (omega (arith, c.requires.base.few)))) in
    omega (arith, last.0, alphabet_length c.args.symbols.now _ c.requires.base.alphabet)

pub push-requires-then-held-gt0 : goal.push-requires-then-held-gt0
push-requires-then-held-gt0 c =
    let whole = whole_grouped c.args.bytes.now c.loop-byte.byte-index c.loop-byte.invariant.0 c.loop-byte-test.false in
    omega (arith, room_for_last c.args.bytes.now whole c.if-held-gt0.true c.loop-byte.invariant.1)

pub returns-then-held-gt0 : goal.returns-then-held-gt0
returns-then-held-gt0 c =
    let whole = whole_grouped c.args.bytes.now c.loop-byte.byte-index c.loop-byte.invariant.0 c.loop-byte-test.false in
    let last = last_grouped c.args.bytes.now (c.loop-byte.rest * ((1 * 2 ^ (c.args.width - c.loop-byte.held)) % 4294967296)) whole c.if-held-gt0.true c.loop-byte.invariant.1 (ap (λ u. c.loop-byte.rest * u) (unit_is (c.args.width - c.loop-byte.held) (omega (arith, c.requires.base.few)))) in
    rw c.push-then-held-gt0.ensures.items last.1

pub returns-else-held-gt0 : goal.returns-else-held-gt0
returns-else-held-gt0 c = all_grouped c.args.bytes.now (whole_grouped c.args.bytes.now c.loop-byte.byte-index c.loop-byte.invariant.0 c.loop-byte-test.false) c.requires.base.some (omega arith)
