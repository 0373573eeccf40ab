use Rattle.std.proofs.lemmas.Result.{err_from_is_err_and}
use Rattle.dag_pb.proofs.Fields.{stops_in_size, no_size_end}
use Rattle.dag_pb.proofs.link.read_link_end.Goals as goal

pub returns-in_err-tsize : goal.returns-in_err-tsize
returns-in_err-tsize c =
    let p = err_from_is_err_and c.from_residual-in_err-tsize.result c.from_residual-in_err-tsize.ensures.1 in
    rw (p.1, p.2) (
      no_size_end c.args.bytes.now c.in_ok-name.following.now c.in_ok-name.ensures.1 c.in_err-tsize.ensures.0,
      stops_in_size c.args.bytes.now _ c.in_ok-name.following.now c.in_err-tsize.field-0.0 c.in_ok-name.ensures.0 c.in_err-tsize.ensures.1,
    )
