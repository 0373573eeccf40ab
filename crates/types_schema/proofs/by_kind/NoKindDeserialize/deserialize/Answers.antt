use Rattle.std.proofs.Common.{refl, inl, inr}
use Rattle.dagcbor_heads.proofs.Refusing.{as_refusal}
use Rattle.dagcbor_read.proofs.Handing.{says}
use Rattle.types_schema.proofs.by_kind.NoKindDeserialize.deserialize.Goals as goal

pub returns-in_err-peek_kind-clause-answers : goal.returns-in_err-peek_kind-clause-answers
returns-in_err-peek_kind-clause-answers g c = as_refusal _ _ _ _ c.from_residual.ensures.1 (inl (c.in_err-peek_kind.ensures.kind, c.in_err-peek_kind.ensures.looked, c.in_err-peek_kind.ensures.variant))

pub returns-clause-answers : goal.returns-clause-answers
returns-clause-answers g c = inr (says c.custom.ensures, (_, refl, (c.in_ok-peek_kind.ensures.kind, c.in_ok-peek_kind.ensures.looked, tt)))
