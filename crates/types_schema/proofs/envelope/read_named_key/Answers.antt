use Rattle.std.proofs.Common.{◌≡◌, true, subst, sym, ◌∙◌, inl, inr, bytes_eq}
use Rattle.std.proofs.lemmas.Slice.Eq.{bytes_eq-Decides}
use Rattle.dagcbor_read.proofs.Answered.{key_read}
use Rattle.dagcbor_read.proofs.Wholes.{on_refusal}
use Rattle.types_schema.proofs.EnvelopeFronts.{key_refused_by_name, other_key}
use Rattle.types_schema.specs.SchemaAnswers.{IsOtherKey}
use Rattle.dagcbor_read.proofs.Handing.{says}
use Rattle.types_schema.proofs.envelope.read_named_key.Goals as goal

pub returns-clause-key : goal.returns-clause-key
returns-clause-key g c =
    let read = key_read g.row.R-Error.Denot _ _ _ _ _ _ c.in-Some.is c.in_ok-key.ensures.key in
    key_refused_by_name _ _ _ _ _ _ _ _ c.custom-else-eq.ensures.1 read.takes.same.faults (other_key read.takes (λ e.
    let yes : bytes_eq c.as_str.result.now c.args.name.now ≡ true = (bytes_eq-Decides c.as_str.result.now c.args.name.now).1 (c.as_str.ensures.value ∙ e) in
    absurd (cc (c.if-eq.ensures, yes))))

pub returns-in_err-key-clause-refuses : goal.returns-in_err-key-clause-refuses
returns-in_err-key-clause-refuses g c = on_refusal _ _ _ c.from_residual.ensures.1 (inl (c.in_err-key.ensures.key, c.in_err-key.ensures.looked, c.in_err-key.ensures.variant, c.in_err-key.ensures.memory))

pub returns-in_default-clause-refuses : goal.returns-in_default-clause-refuses
returns-in_default-clause-refuses g c = inr (c.in_ok-key.field-0, (c.in_ok-key.ensures.key, c.in_ok-key.ensures.looked, tt, tt), subst (λ o. IsOtherKey c.args.name.now o c.custom.result) (sym c.in_default.is) (says c.custom.ensures))

pub returns-clause-refuses : goal.returns-clause-refuses
returns-clause-refuses g c = inr (
  c.in_ok-key.field-0,
  (c.in_ok-key.ensures.key, c.in_ok-key.ensures.looked, tt, tt),
  subst (λ o. IsOtherKey c.args.name.now o c.custom-else-eq.result) (sym c.in-Some.is) (
    says c.custom-else-eq.ensures,
    λ e.
        let yes : bytes_eq c.as_str.result.now c.args.name.now ≡ true = (bytes_eq-Decides c.as_str.result.now c.args.name.now).1 (c.as_str.ensures.value ∙ e) in
        absurd (cc (c.if-eq.ensures, yes)),
  ),
)
