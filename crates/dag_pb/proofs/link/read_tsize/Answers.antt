use Rattle.std.proofs.Common.{subst}
use Rattle.std.proofs.lemmas.Result.{err_from_is_err_and}
use Rattle.dag_pb.specs.Varint.{BeginsWithVarint}
use Rattle.dag_pb.specs.declared.error.PbCause.TheVariants.{UnexpectedField}
use Rattle.dag_pb.proofs.Stopping.{stops_here}
use Rattle.dag_pb.proofs.Fields.{some_there, no_size, other_size, no_number_size, more_size, stops_after_varint, stops_after_two}
use Rattle.dag_pb.proofs.link.read_tsize.Goals as goal

pub returns-in_err-found : goal.returns-in_err-found
returns-in_err-found c =
    let p = err_from_is_err_and c.from_residual.result c.from_residual.ensures.1 in
    rw (p.1, p.2) (no_size c.args.bytes.now (some_there c.args.bytes.now c.is_empty.result c.is_empty.ensures c.if-is_empty.false) c.in_err-found.ensures.0, c.in_err-found.ensures.1)

pub returns-then-found-ne-TSIZE : goal.returns-then-found-ne-TSIZE
returns-then-found-ne-TSIZE c = (
  other_size c.args.bytes.now c.in_ok-found.found c.in_ok-found.following.now c.in_ok-found.ensures c.if-found-ne-TSIZE.true,
  stops_here c.args.bytes.now (UnexpectedField c.in_ok-found.found) c.before-then-found-ne-TSIZE.result c.before-then-found-ne-TSIZE.ensures (c.in_ok-found.following.now, c.in_ok-found.ensures),
)

pub returns-in_err-size : goal.returns-in_err-size
returns-in_err-size c =
    let tag = subst (λ n. BeginsWithVarint c.args.bytes.now n c.in_ok-found.following.now) c.if-found-ne-TSIZE.false c.in_ok-found.ensures in
    let p = err_from_is_err_and c.from_residual-in_err-size.result c.from_residual-in_err-size.ensures.1 in
    rw (p.1, p.2) (no_number_size c.args.bytes.now c.in_ok-found.following.now tag c.in_err-size.ensures.0, stops_after_varint c.args.bytes.now 0x18 c.in_ok-found.following.now c.in_err-size.field-0.0 tag c.in_err-size.ensures.1)

pub returns-in_err-next : goal.returns-in_err-next
returns-in_err-next c =
    let tag = subst (λ n. BeginsWithVarint c.args.bytes.now n c.in_ok-found.following.now) c.if-found-ne-TSIZE.false c.in_ok-found.ensures in
    let p = err_from_is_err_and c.from_residual-in_err-next.result c.from_residual-in_err-next.ensures.1 in
    rw (p.1, p.2) (
      more_size c.args.bytes.now c.in_ok-found.following.now c.in_ok-size.rest.now c.in_ok-size.size tag c.in_ok-size.ensures (some_there c.in_ok-size.rest.now c.is_empty-2.result c.is_empty-2.ensures c.if-is_empty-2.false),
      stops_after_two c.args.bytes.now c.in_ok-found.following.now c.in_ok-size.rest.now 0x18 c.in_ok-size.size c.in_err-next.field-0.0 tag c.in_ok-size.ensures c.in_err-next.ensures.1,
    )

pub returns : goal.returns
returns c =
    let tag = subst (λ n. BeginsWithVarint c.args.bytes.now n c.in_ok-found.following.now) c.if-found-ne-TSIZE.false c.in_ok-found.ensures in (
      more_size c.args.bytes.now c.in_ok-found.following.now c.in_ok-size.rest.now c.in_ok-size.size tag c.in_ok-size.ensures (some_there c.in_ok-size.rest.now c.is_empty-2.result c.is_empty-2.ensures c.if-is_empty-2.false),
      stops_after_two c.args.bytes.now c.in_ok-found.following.now c.in_ok-size.rest.now 0x18 c.in_ok-size.size c.before-2.result tag c.in_ok-size.ensures (stops_here c.in_ok-size.rest.now (UnexpectedField c.in_ok-next.next) c.before-2.result c.before-2.ensures (c.in_ok-next._following.now, c.in_ok-next.ensures)),
    )
