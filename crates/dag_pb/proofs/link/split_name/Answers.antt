use Rattle.std.proofs.Common.{subst, refl}
use Rattle.std.proofs.lemmas.Result.{err_from_is_err_and}
use Rattle.dag_pb.specs.Varint.{BeginsWithVarint}
use Rattle.dag_pb.specs.Node.{BeginsWithBytes}
use Rattle.dag_pb.proofs.Fields.{some_there, no_link_end, no_counted_name, end_without_name, end_with_name, stops_after_varint}
use Rattle.dag_pb.proofs.link.split_name.Goals as goal

pub returns-in_err-found : goal.returns-in_err-found
returns-in_err-found c =
    let p = err_from_is_err_and c.from_residual.result c.from_residual.ensures.1 in
    rw (p.1, p.2) (no_link_end c.args.bytes.now (some_there c.args.bytes.now c.is_empty.result c.is_empty.ensures c.if-is_empty.false) c.in_err-found.ensures.0, c.in_err-found.ensures.1)

pub returns-then-found-ne-NAME : goal.returns-then-found-ne-NAME
returns-then-found-ne-NAME c = (refl, end_without_name c.args.bytes.now c.in_ok-found.found c.in_ok-found.following.now c.in_ok-found.ensures c.if-found-ne-NAME.true)

pub returns-in_err-name : goal.returns-in_err-name
returns-in_err-name c =
    let tag = subst (λ n. BeginsWithVarint c.args.bytes.now n c.in_ok-found.following.now) c.if-found-ne-NAME.false c.in_ok-found.ensures in
    let p = err_from_is_err_and c.from_residual-in_err-name.result c.from_residual-in_err-name.ensures.1 in
    rw (p.1, p.2) (no_counted_name c.args.bytes.now c.in_ok-found.following.now tag c.in_err-name.ensures.0, stops_after_varint c.args.bytes.now 0x12 c.in_ok-found.following.now c.in_err-name.field-0.0 tag c.in_err-name.ensures.1)

pub returns : goal.returns
returns c =
    let tag = subst (λ n. BeginsWithVarint c.args.bytes.now n c.in_ok-found.following.now) c.if-found-ne-NAME.false c.in_ok-found.ensures in
    let there : BeginsWithBytes 0x12 c.args.bytes.now c.in_ok-name.name.now c.in_ok-name.rest.now = (c.in_ok-found.following.now, tag, c.in_ok-name.ensures) in
    (there, end_with_name c.args.bytes.now c.in_ok-name.name.now c.in_ok-name.rest.now there)
