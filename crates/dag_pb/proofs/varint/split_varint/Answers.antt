use Rattle.std.proofs.Common.{refl, sym, subst, arith, ◌+◌, ◌*◌}
use Rattle.std.proofs.lemmas.List.{take_rest}
use Rattle.dag_pb.specs.Varint.{BeginsWithVarint}
use Rattle.dag_pb.specs.declared.error.PbCause.TheVariants.{InvalidVarint, Truncated}
use Rattle.dag_pb.proofs.Varints.{none_read, one_read, last_read, none_so_large, none_alone, all_read, unit_at_most, sum_fits, false_refutes, high_apart, high_few}
use Rattle.dag_pb.proofs.Stopping.{stops_here}
use Rattle.dag_pb.proofs.varint.split_varint.Goals as goal

pub loop-place-init : goal.loop-place-init
loop-place-init c = none_read c.args.bytes.now

pub returns-then-is_too_large : goal.returns-then-is_too_large
returns-then-is_too_large c =
    let too = c.is_too_large.ensures.0 c.if-is_too_large.true in
    let none = none_so_large c.args.bytes.now c.loop-place.number c.loop-place.unit _ c.loop-place.place c.loop-place.invariant c.loop-place-test.true refl too.0 too.1 in
    (none_alone c.args.bytes.now none, stops_here c.args.bytes.now InvalidVarint c.before-then-is_too_large.result c.before-then-is_too_large.ensures none)

pub overflow_add-number : goal.overflow_add-number
overflow_add-number c = omega (arith, sum_fits c.args.bytes.now c.loop-place.place c.loop-place.number c.loop-place.unit _ c.from.result c.loop-place.invariant (false_refutes c.is_too_large.result c.if-is_too_large.false c.is_too_large.ensures.1) (omega (arith, c.type_inv.group)) c.from.ensures)

pub returns-then-group-lt128 : goal.returns-then-group-lt128
returns-then-group-lt128 c =
    let r = last_read c.args.bytes.now c.loop-place.place c.loop-place.number c.loop-place.unit _ c.from.result c.loop-place.invariant c.loop-place-test.true refl c.if-group-lt128.true (false_refutes c.is_too_large.result c.if-is_too_large.false c.is_too_large.ensures.1) c.from.ensures in
    subst (BeginsWithVarint c.args.bytes.now (c.loop-place.number + c.from.result * c.loop-place.unit)) (sym (take_rest c.args.bytes.now (c.loop-place.place + 1))) r.1

pub overflow_mul-unit : goal.overflow_mul-unit
overflow_mul-unit c =
    let apart = high_apart c.loop-place.place _ (false_refutes c.is_too_large.result c.if-is_too_large.false c.is_too_large.ensures.1) c.if-group-lt128.false in
    omega (arith, unit_at_most c.loop-place.place c.loop-place.unit 8 (high_few c.loop-place.place c.loop-place.invariant.few apart) c.loop-place.invariant.unit_is)

pub loop-place-preserved : goal.loop-place-preserved
loop-place-preserved c =
    let apart = high_apart c.loop-place.place _ (false_refutes c.is_too_large.result c.if-is_too_large.false c.is_too_large.ensures.1) c.if-group-lt128.false in
    one_read c.args.bytes.now c.loop-place.place c.loop-place.number c.loop-place.unit _ c.from.result c.loop-place.invariant c.loop-place-test.true refl c.if-group-lt128.false apart c.from.ensures

pub returns : goal.returns
returns c =
    let k = all_read c.args.bytes.now c.loop-place.place c.loop-place.number c.loop-place.unit c.loop-place.invariant c.loop-place-test.false in
    (k.0, stops_here c.args.bytes.now Truncated c.before-2.result c.before-2.ensures k.1)
