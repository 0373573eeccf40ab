use Rattle.dag_pb_model.proofs.Opening.{no_links_of_one}
use Rattle.dag_pb_model.proofs.open.open_one.Goals as goal

pub returns-in_err-count : goal.returns-in_err-count
returns-in_err-count c = rw c.from_residual.ensures (no_links_of_one c.args.block.now c.in_err-count.ensures)
