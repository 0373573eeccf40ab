use Rattle.dagcbor_heads.proofs.Writing.{Writes_then, Writes_exit}
use Rattle.ipld_tree.specs.Tree.{text}
use Rattle.ipld_tree.specs.Spelled.{spelled, spelled_head}
use Rattle.dagcbor_write.proofs.serializer.Serializer.push_variant.Goals as goal

pub returns-in_err-push_head-clause-written : goal.returns-in_err-push_head-clause-written
returns-in_err-push_head-clause-written g c = Writes_exit _ _ _ _ _ _ c.from_residual.ensures.1 c.in_err-push_head.ensures.written

pub returns-clause-written : goal.returns-clause-written
returns-clause-written g c =
    Writes_then (spelled_head 5 1) (spelled (text c.args.name.now)) _ (g.W.Write.written c.push_head.new.self) _ _ c.in_ok-push_head.ensures.written c.serialize_str.ensures.written
