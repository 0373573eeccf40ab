use Rattle.std.proofs.Common.{inl, refl}
use Rattle.std.proofs.lemmas.Result.{MatchResult-weaker}
use Rattle.ipld_paths.proofs.resolution.step_in.Goals as goal

pub returns-in-Block : goal.returns-in-Block
returns-in-Block c = λ all under. c.step_at.ensures all c.args.name.now (c.args.bytes.now, under, c.in-Block.ensures.0, inl (c.in-Block.ensures.1.0, refl))

pub returns-in-Node : goal.returns-in-Node
returns-in-Node c = MatchResult-weaker c.step_in_node.result c.step_in_node.ensures (λ r step all under. step all c.args.name.now under c.in-Node.ensures.0 c.in-Node.ensures.1.0) (λ _ has all under. (c.args.bytes.now, under, c.in-Node.ensures.1.0, has))
