-- Refusals that are handed on.
use Rattle.std.proofs.Common.{◌≡◌, sym, subst, Result, Ok, Err, IfErr}
use Rattle.std.specs.Prelude.{MatchResult}
use Rattle.std.specs.Result.{IsErrAnd}

-- what holds of a refusal that `?` hands on
pub handed_on : {T E : Type 0} (P : T → Type 0) (Q : E → Type 0) (r : Result T E) (e : E) → IsErrAnd r (λ y. y ≡ e) → Q e → MatchResult r P Q
handed_on P Q (Ok x) e h q = absurd h
handed_on P Q (Err y) e h q = subst Q (sym h) q

-- what holds anyway holds of a refusal
pub err_so : {T E : Type 0} (P : Type 0) (r : Result T E) → P → IfErr r (λ _. P)
err_so P (Ok x) h = tt
err_so P (Err e) h = h

pub handed_on_err : {T E : Type 0} (Q : E → Type 0) (r : Result T E) (e : E) → IsErrAnd r (λ y. y ≡ e) → Q e → IfErr r Q
handed_on_err Q (Ok x) e h q = tt
handed_on_err Q (Err y) e h q = subst Q (sym h) q
