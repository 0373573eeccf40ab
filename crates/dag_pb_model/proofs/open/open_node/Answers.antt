use Rattle.std.proofs.Common.{option_map}
use Rattle.dag_pb_model.proofs.Opening.{other_node_head, node_judged}
use Rattle.dag_pb_model.proofs.open.open_node.Goals as goal

pub returns-in_err-major : goal.returns-in_err-major
returns-in_err-major c = rw c.from_residual.ensures (λ i k x g. c.in_err-major.ensures (5, g.0, g.1, g.2))

pub returns-then-major-ne5 : goal.returns-then-major-ne5
returns-then-major-ne5 c = other_node_head c.args.block.now _ _ _ c.in_ok-major.ensures c.if-major-ne5.true

pub returns : goal.returns
returns c = node_judged (λ p. option_map (λ b. b.now) p.0) (λ p. p.1) (λ p. p.2.now) _ c.args.block.now c.in_ok-major.following.now c.open_entries.result (rw c.if-major-ne5.false at c.in_ok-major.ensures) c.open_entries.ensures
