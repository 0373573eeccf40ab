use Rattle.std.proofs.Common.{codes}
use Rattle.ipld_tree.specs.Tree.{bytes}
use Rattle.dag_pb_model.proofs.Opening.{data_key}
use Rattle.dag_pb_model.proofs.Parting.{entry_read, no_key, no_value}
use Rattle.dag_pb_model.proofs.open.split_data.Goals as goal

pub returns-in_err-following : goal.returns-in_err-following
returns-in_err-following c = rw c.from_residual.ensures (no_key bytes (codes "Data") _ c.args.block.now data_key c.in_err-following.ensures)

pub returns-in_err-inner : goal.returns-in_err-inner
returns-in_err-inner c = rw c.from_residual-in_err-inner.ensures (no_value bytes (codes "Data") _ c.args.block.now c.in_ok-following.following.now data_key c.in_ok-following.ensures c.in_err-inner.ensures)

pub returns : goal.returns
returns c = entry_read (codes "Data") _ c.args.block.now c.in_ok-following.following.now _ _ data_key c.in_ok-following.ensures c.in_ok-inner.ensures
