use Rattle.std.proofs.Common.{rules, inl, inr, Some}
use Rattle.dagcbor_heads.proofs.Refusing.{as_refusal}
use Rattle.dagcbor_items.specs.Shapes.{view_number}
use Rattle.dagcbor_items.specs.ReadCauses.{MajorCause}
use Rattle.dagcbor_items.proofs.Integers.{big_byte_refused, no_tag, big_read}
use Rattle.dagcbor_items.proofs.Looks.{peeked_value}
use Rattle.dagcbor_items.proofs.numbers.pull_big.Goals as goal

pub returns-in_err-first-clause-number : goal.returns-in_err-first-clause-number
returns-in_err-first-clause-number g c = as_refusal _ _ _ _ c.from_residual.ensures.1 (big_byte_refused _ _ _ _ c.in_err-first.ensures.variant c.in_err-first.ensures.shown)

pub returns-then-first-clause-number : goal.returns-then-first-clause-number
returns-then-first-clause-number g c =
    let told = c.unsupported.ensures in
    rw told.1 (no_tag g.row.R-Error.Denot _ told.0 told.2 c.in_ok-first.ensures.shown (elim c.then-first.either [ inl e ↦ inl e | inr e ↦ inr e.1 ]))

pub returns-clause-number : goal.returns-clause-number
returns-clause-number g c = big_read _ _ _ c.in_ok-first.ensures.shown (search rules) c.pull_number.ensures.number

pub returns-clause-looked : goal.returns-clause-looked
returns-clause-looked g c = peeked_value 3 (λ n. n) (view_number Some) (λ _. ⊥) (MajorCause c.args.name.now 0 1) _ _ c.in_ok-first.ensures.looked c.in_ok-first.ensures.shown c.pull_number.ensures.number c.pull_number.ensures.looked
