use Rattle.dagcbor_heads.proofs.Writing.{Writes_then, Writes_exit}
use Rattle.ipld_tree.specs.Spelled.{spelled_head}
use Rattle.dagcbor_write.specs.Trees.{variant_head}
use Rattle.dagcbor_write.proofs.serializer.Serializer.push_variant_of.Goals as goal

pub returns-in_err-push_variant-clause-written : goal.returns-in_err-push_variant-clause-written
returns-in_err-push_variant-clause-written g c = Writes_exit _ _ _ _ _ _ c.from_residual.ensures.1 c.in_err-push_variant.ensures.written

pub returns-clause-written : goal.returns-clause-written
returns-clause-written g c =
    Writes_then (variant_head c.args.variant.now) (spelled_head c.args.major c.args.len) _ (g.W.Write.written c.push_variant.new.self) _ _ c.in_ok-push_variant.ensures.written c.push_head.ensures.written
