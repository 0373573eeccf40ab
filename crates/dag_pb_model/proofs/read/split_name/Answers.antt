use Rattle.std.proofs.Common.{codes}
use Rattle.ipld_tree.specs.Tree.{text}
use Rattle.dag_pb_model.proofs.Parting.{name_key, entry_read, no_key, no_value}
use Rattle.dag_pb_model.proofs.read.split_name.Goals as goal

pub returns-in_err-following : goal.returns-in_err-following
returns-in_err-following c = rw c.from_residual.ensures (no_key text (codes "Name") _ c.args.bytes.now name_key c.in_err-following.ensures)

pub returns-in_err-name : goal.returns-in_err-name
returns-in_err-name c = rw c.from_residual-in_err-name.ensures (no_value text (codes "Name") _ c.args.bytes.now c.in_ok-following.following.now name_key c.in_ok-following.ensures c.in_err-name.ensures)

pub returns : goal.returns
returns c = entry_read (codes "Name") _ c.args.bytes.now c.in_ok-following.following.now _ _ name_key c.in_ok-following.ensures c.in_ok-name.ensures
