use Rattle.std.proofs.Common.{◌≡◌, Bool, true, false, refl, sym, ap, ◌∙◌, ◌++◌, ◌+◌, ◌*◌}
use Rattle.std.proofs.lemmas.List.{take_rest}
use Rattle.ipld_tree.specs.Cid.{varint}
use Rattle.ipld_tree.proofs.VarintRead.{no_varint_byte_read, one_varint_byte_read, last_read, all_varint_bytes_read, none_from_misplaced}
use Rattle.ipld_tree.proofs.cid.split_varint.Goals as goal

false_refutes : {P : Type 0} (b : Bool) → b ≡ false → (P → b ≡ true) → P → ⊥
false_refutes b f t p = let clash : true ≡ false = sym (t p) ∙ f in absurd (cc clash)

pub loop-place-init : goal.loop-place-init
loop-place-init c = no_varint_byte_read c.args.bytes.now

pub returns-then-is_misplaced : goal.returns-then-is_misplaced
returns-then-is_misplaced c =
    none_from_misplaced c.args.bytes.now c.loop-place.place c.loop-place.number c.loop-place.unit _ c.loop-place.invariant c.loop-place-test.true refl (c.is_misplaced.ensures.0 c.if-is_misplaced.true)

pub returns-then-group-lt128 : goal.returns-then-group-lt128
returns-then-group-lt128 c =
    let r = last_read c.args.bytes.now c.loop-place.place c.loop-place.number c.loop-place.unit _ c.from.result c.loop-place.invariant c.loop-place-test.true refl c.if-group-lt128.true c.from.ensures (false_refutes c.is_misplaced.result c.if-is_misplaced.false c.is_misplaced.ensures.1) in
    (r.0, r.1 ∙ ap (λ rest. varint (c.loop-place.number + c.from.result * c.loop-place.unit) ++ rest) (sym (take_rest c.args.bytes.now (c.loop-place.place + 1))))

pub loop-place-preserved : goal.loop-place-preserved
loop-place-preserved c =
    one_varint_byte_read c.args.bytes.now c.loop-place.place c.loop-place.number c.loop-place.unit _ c.from.result c.loop-place.invariant c.loop-place-test.true refl c.if-group-lt128.false (c.type_inv.bytes c.loop-place.place).fits c.from.ensures (false_refutes c.is_misplaced.result c.if-is_misplaced.false c.is_misplaced.ensures.1)

pub returns : goal.returns
returns c = all_varint_bytes_read c.args.bytes.now c.loop-place.place c.loop-place.number c.loop-place.unit c.loop-place.invariant c.loop-place-test.false
