use Rattle.std.proofs.Common.{pos, codes}
use Rattle.ipld_tree.specs.Tree.{integer}
use Rattle.dag_pb_model.proofs.Parting.{size_key, entry_read, no_key, no_value}
use Rattle.dag_pb_model.proofs.read.split_size.Goals as goal

pub returns-in_err-following : goal.returns-in_err-following
returns-in_err-following c = rw c.from_residual.ensures (no_key (λ n. integer (pos n)) (codes "Tsize") _ c.args.bytes.now size_key c.in_err-following.ensures)

pub returns-in_err-size : goal.returns-in_err-size
returns-in_err-size c = rw c.from_residual-in_err-size.ensures (no_value (λ n. integer (pos n)) (codes "Tsize") _ c.args.bytes.now c.in_ok-following.following.now size_key c.in_ok-following.ensures c.in_err-size.ensures)

pub returns : goal.returns
returns c = entry_read (codes "Tsize") _ c.args.bytes.now c.in_ok-following.following.now _ _ size_key c.in_ok-following.ensures c.in_ok-size.ensures
