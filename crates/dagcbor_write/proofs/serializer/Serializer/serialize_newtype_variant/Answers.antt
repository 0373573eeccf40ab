use Rattle.dagcbor_heads.proofs.Writing.{next_part, exit_part, last_part}
use Rattle.dagcbor_write.proofs.Enums.{begin_newtype_variant}
use Rattle.dagcbor_write.proofs.serializer.Serializer.serialize_newtype_variant.Goals as goal

pub returns-in_err-push_variant-clause-written : goal.returns-in_err-push_variant-clause-written
returns-in_err-push_variant-clause-written g c =
    exit_part (begin_newtype_variant c.args.variant.now (g.T.Serialize.tree c.args.value.now) _) _ _ _ c.from_residual.ensures.1 c.in_err-push_variant.ensures.written

pub returns-clause-written : goal.returns-clause-written
returns-clause-written g c =
    last_part (next_part (begin_newtype_variant c.args.variant.now (g.T.Serialize.tree c.args.value.now) _) _ c.in_ok-push_variant.ensures.written) _ _ c.serialize.ensures.written
