use Rattle.std.proofs.Common.{subst}
use Rattle.std.proofs.lemmas.Result.{err_from_is_err_and}
use Rattle.dag_pb.specs.Varint.{BeginsWithVarint}
use Rattle.dag_pb.specs.declared.error.PbCause.TheVariants.{UnexpectedField}
use Rattle.dag_pb.specs.Node.{BeginsWithBytes}
use Rattle.dag_pb.proofs.Stopping.{stops_here}
use Rattle.dag_pb.proofs.Fields.{stops_after_varint}
use Rattle.dag_pb.proofs.Rows.{no_field, other_field, no_data_field, no_message, no_link_field, stops_in_message}
use Rattle.dag_pb.proofs.field.split_field.Goals as goal

pub returns-in_err-tag : goal.returns-in_err-tag
returns-in_err-tag c =
    let p = err_from_is_err_and c.from_residual.result c.from_residual.ensures.1 in
    rw (p.1, p.2) (no_field c.args.bytes.now c.in_err-tag.ensures.0, c.in_err-tag.ensures.1)

pub returns-in_err-inner : goal.returns-in_err-inner
returns-in_err-inner c =
    let tag = subst (λ n. BeginsWithVarint c.args.bytes.now n c.in_ok-tag.following.now) c.if-tag-eq-DATA.true c.in_ok-tag.ensures in
    let p = err_from_is_err_and c.from_residual-in_err-inner.result c.from_residual-in_err-inner.ensures.1 in
    rw (p.1, p.2) (
      no_data_field c.args.bytes.now c.in_ok-tag.following.now tag c.in_err-inner.ensures.0,
      stops_after_varint c.args.bytes.now 0x0a c.in_ok-tag.following.now c.in_err-inner.field-0.0 tag c.in_err-inner.ensures.1,
    )

pub returns-then-tag-ne-LINK : goal.returns-then-tag-ne-LINK
returns-then-tag-ne-LINK c = (
  other_field c.args.bytes.now c.in_ok-tag.tag c.in_ok-tag.following.now c.in_ok-tag.ensures c.if-tag-eq-DATA.false c.if-tag-ne-LINK.true,
  stops_here c.args.bytes.now (UnexpectedField c.in_ok-tag.tag) c.before-then-tag-ne-LINK.result c.before-then-tag-ne-LINK.ensures (c.in_ok-tag.following.now, c.in_ok-tag.ensures),
)

pub returns-in_err-message : goal.returns-in_err-message
returns-in_err-message c =
    let tag = subst (λ n. BeginsWithVarint c.args.bytes.now n c.in_ok-tag.following.now) c.if-tag-ne-LINK.false c.in_ok-tag.ensures in
    let p = err_from_is_err_and c.from_residual-in_err-message.result c.from_residual-in_err-message.ensures.1 in
    rw (p.1, p.2) (
      no_message c.args.bytes.now c.in_ok-tag.following.now tag c.in_err-message.ensures.0,
      stops_after_varint c.args.bytes.now 0x12 c.in_ok-tag.following.now c.in_err-message.field-0.0 tag c.in_err-message.ensures.1,
    )

pub returns-in-Err : goal.returns-in-Err
returns-in-Err c =
    let tag = subst (λ n. BeginsWithVarint c.args.bytes.now n c.in_ok-tag.following.now) c.if-tag-ne-LINK.false c.in_ok-tag.ensures in
    let there : BeginsWithBytes 0x12 c.args.bytes.now c.in_ok-message.message.now c.in_ok-message.rest.now = (c.in_ok-tag.following.now, tag, c.in_ok-message.ensures) in (
      no_link_field c.args.bytes.now c.in_ok-message.message.now c.in_ok-message.rest.now there c.in-Err.ensures.0,
      stops_in_message c.args.bytes.now c.in_ok-message.message.now c.in_ok-message.rest.now c.in-Err.stop there c.in-Err.ensures.1,
    )
