use Rattle.std.proofs.lemmas.Result.{err_from_is_err_and}
use Rattle.dag_pb.specs.declared.error.PbCause.TheVariants.{Truncated}
use Rattle.dag_pb.proofs.Varints.{none_counted, fewer_counted}
use Rattle.dag_pb.proofs.Stopping.{stops_here}
use Rattle.dag_pb.proofs.varint.split_counted.Goals as goal

pub returns-in_err-count : goal.returns-in_err-count
returns-in_err-count c =
    let p = err_from_is_err_and c.from_residual.result c.from_residual.ensures.1 in
    rw (p.1, p.2) (none_counted c.args.bytes.now c.in_err-count.ensures.0, c.in_err-count.ensures.1)

pub returns-in-None : goal.returns-in-None
returns-in-None c =
    let k = fewer_counted c.args.bytes.now c.in_ok-count.count c.in_ok-count.rest.now c.in_ok-count.ensures c.in-None.ensures.cases in
    (k.0, stops_here c.args.bytes.now Truncated c.before-in-None.result c.before-in-None.ensures k.1)
