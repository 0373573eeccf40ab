use Rattle.std.proofs.lemmas.Result.{err_from_is_err_and}
use Rattle.dag_pb.specs.declared.error.PbCause.TheVariants.{NoHash}
use Rattle.dag_pb.proofs.Stopping.{stops_here}
use Rattle.dag_pb.proofs.Fields.{empty_there, no_hash, no_hash_in_nothing, no_cid, stops_at_cid, no_end, stops_after_hash}
use Rattle.dag_pb.proofs.link.read_link.Goals as goal

pub returns-then-is_empty : goal.returns-then-is_empty
returns-then-is_empty c =
    let empty = empty_there c.args.message.now c.is_empty.result c.is_empty.ensures c.if-is_empty.true in
    (no_hash_in_nothing c.args.message.now empty, stops_here c.args.message.now NoHash c.before-then-is_empty.result c.before-then-is_empty.ensures empty)

pub returns-in_err-form : goal.returns-in_err-form
returns-in_err-form c =
    let p = err_from_is_err_and c.from_residual.result c.from_residual.ensures.1 in
    rw (p.1, p.2) (no_hash c.args.message.now c.in_err-form.ensures.0, c.in_err-form.ensures.1)

pub returns-in-Err-read_link_end : goal.returns-in-Err-read_link_end
returns-in-Err-read_link_end c = (
  no_end c.args.message.now c.in_ok-form.form.now c.in_ok-form.following.now c.in_ok-form.ensures c.in-Err-read_link_end.ensures.0,
  stops_after_hash c.args.message.now c.in_ok-form.form.now c.in_ok-form.following.now c.in-Err-read_link_end.stop c.in_ok-form.ensures c.in-Err-read_link_end.ensures.1,
)

pub returns-in-Err : goal.returns-in-Err
returns-in-Err c = (
  no_cid c.args.message.now c.in_ok-form.form.now c.in_ok-form.following.now c.in_ok-form.ensures c.in-Err.ensures.0,
  stops_at_cid c.args.message.now c.in_ok-form.form.now c.in_ok-form.following.now c.in-Err.fault c.in_ok-form.ensures c.in-Err.ensures.1,
)
