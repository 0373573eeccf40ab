use Rattle.dag_pb_model.proofs.Opening.{no_links_key, no_links_head, other_links_head, links_found}
use Rattle.dag_pb_model.proofs.open.split_links.Goals as goal

pub returns-in_err-following : goal.returns-in_err-following
returns-in_err-following c = rw c.from_residual.ensures (no_links_key c.args.block.now c.in_err-following.ensures)

pub returns-in_err-major : goal.returns-in_err-major
returns-in_err-major c = rw c.from_residual-in_err-major.ensures (no_links_head c.args.block.now c.in_ok-following.following.now c.in_ok-following.ensures c.in_err-major.ensures)

pub returns-then-major-ne4 : goal.returns-then-major-ne4
returns-then-major-ne4 c = other_links_head c.args.block.now c.in_ok-following.following.now _ _ _ c.in_ok-following.ensures c.in_ok-major.ensures c.if-major-ne4.true

pub returns : goal.returns
returns c = links_found c.args.block.now c.in_ok-following.following.now _ _ c.in_ok-following.ensures (rw c.if-major-ne4.false at c.in_ok-major.ensures)
