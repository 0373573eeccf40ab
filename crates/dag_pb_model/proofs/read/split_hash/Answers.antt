use Rattle.std.proofs.Common.{codes}
use Rattle.ipld_tree.specs.Tree.{link}
use Rattle.dag_pb_model.proofs.Parting.{hash_key, no_key, hash_judged}
use Rattle.dag_pb_model.proofs.read.split_hash.Goals as goal

pub returns-in_err-following : goal.returns-in_err-following
returns-in_err-following c = rw c.from_residual.ensures (no_key link (codes "Hash") _ c.args.bytes.now hash_key c.in_err-following.ensures)

pub returns : goal.returns
returns c = hash_judged (λ l. l.cid) (λ l. l.rest.now) (codes "Hash") _ c.args.bytes.now c.in_ok-following.following.now c.split_link.result hash_key c.in_ok-following.ensures c.split_link.ensures
