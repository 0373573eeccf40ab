use Rattle.dag_pb_model.proofs.Parting.{no_size_of_both}
use Rattle.dag_pb_model.proofs.read.split_both_ends.Goals as goal

pub returns-in_err-size : goal.returns-in_err-size
returns-in_err-size c = rw c.from_residual-in_err-size.ensures (no_size_of_both c.args.bytes.now c.in_ok-name.name.now c.in_ok-name.following.now c.in_ok-name.ensures c.in_err-size.ensures)
