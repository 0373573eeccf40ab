use Rattle.dag_pb_model.proofs.Opening.{no_data_of_both, no_links_of_both}
use Rattle.dag_pb_model.proofs.open.open_both.Goals as goal

pub returns-in_err-inner : goal.returns-in_err-inner
returns-in_err-inner c = rw c.from_residual.ensures (no_data_of_both c.args.block.now c.in_err-inner.ensures)

pub returns-in_err-count : goal.returns-in_err-count
returns-in_err-count c = rw c.from_residual-in_err-count.ensures (no_links_of_both c.args.block.now c.in_ok-inner.inner.now c.in_ok-inner.following.now c.in_ok-inner.ensures c.in_err-count.ensures)
