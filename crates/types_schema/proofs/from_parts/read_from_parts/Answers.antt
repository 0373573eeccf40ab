use Rattle.std.proofs.Common.{sym, inl, inr}
use Rattle.dagcbor_heads.proofs.Refusing.{as_refusal}
use Rattle.dagcbor_read.proofs.Finishing.{value_unfinished}
use Rattle.dagcbor_read.proofs.Handing.{says}
use Rattle.types_schema.proofs.from_parts.read_from_parts.Goals as goal

pub returns-in-None-clause-value : goal.returns-in-None-clause-value
returns-in-None-clause-value g c = value_unfinished _ _ _ (c.custom.ensures.0, c.custom.ensures.1) (sym c.in-None.ensures) c.in_ok-parts.ensures.value

pub returns-in_err-parts-clause-answers : goal.returns-in_err-parts-clause-answers
returns-in_err-parts-clause-answers g c = as_refusal _ _ _ _ c.from_residual.ensures.1 (inl c.in_err-parts.ensures.answers)

pub returns-in-Some-clause-answers : goal.returns-in-Some-clause-answers
returns-in-Some-clause-answers g c = (c.in_ok-parts.parts, sym c.in-Some.ensures, c.in_ok-parts.ensures.answers)

pub returns-in-None-clause-answers : goal.returns-in-None-clause-answers
returns-in-None-clause-answers g c = inr (says c.custom.ensures, (c.in_ok-parts.parts, sym c.in-None.ensures, c.in_ok-parts.ensures.answers))
