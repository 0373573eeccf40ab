use Rattle.std.proofs.Common.{subst}
use Rattle.std.proofs.lemmas.Result.{err_from_is_err_and, MatchResult-weaker}
use Rattle.dag_pb.specs.Varint.{BeginsWithVarint}
use Rattle.dag_pb.specs.declared.error.PbCause.TheVariants.{UnexpectedField}
use Rattle.dag_pb.proofs.Fields.{no_bytes, other_bytes, no_counted_bytes, stops_after_varint}
use Rattle.dag_pb.proofs.Stopping.{stops_here}
use Rattle.dag_pb.proofs.link.split_bytes.Goals as goal

pub returns-in_err-found : goal.returns-in_err-found
returns-in_err-found c =
    let p = err_from_is_err_and c.from_residual.result c.from_residual.ensures.1 in
    rw (p.1, p.2) (no_bytes c.args.tag c.args.bytes.now c.in_err-found.ensures.0, c.in_err-found.ensures.1)

pub returns-then-found-tag : goal.returns-then-found-tag
returns-then-found-tag c = (
  other_bytes c.args.tag c.in_ok-found.found c.args.bytes.now c.in_ok-found.following.now c.in_ok-found.ensures c.if-found-tag.true,
  stops_here c.args.bytes.now (UnexpectedField c.in_ok-found.found) c.before-then-found-tag.result c.before-then-found-tag.ensures (c.in_ok-found.following.now, c.in_ok-found.ensures),
)

pub returns : goal.returns
returns c =
    let tag = subst (λ n. BeginsWithVarint c.args.bytes.now n c.in_ok-found.following.now) c.if-found-tag.false c.in_ok-found.ensures in
    MatchResult-weaker c.split_counted.result c.split_counted.ensures
    (λ p h. (c.in_ok-found.following.now, tag, h))
    (λ stop h. (no_counted_bytes c.args.tag c.args.bytes.now c.in_ok-found.following.now tag h.0, stops_after_varint c.args.bytes.now c.args.tag c.in_ok-found.following.now stop tag h.1))
