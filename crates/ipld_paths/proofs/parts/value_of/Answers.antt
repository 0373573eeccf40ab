use Rattle.std.proofs.Common.{Bor, List, ℕ, arith, ◌≢◌, None, Some}
use Rattle.std.proofs.lemmas.Slice.Eq.{slice_eq-Decides}
use Rattle.std.proofs.lemmas.Bool.Decides.{Decides-eqb}
use Rattle.dagcbor_items.proofs.Skipping.{one_found, ends_within}
use Rattle.ipld_paths.proofs.Entries.{no_key_passed, no_key_there, no_value_there, value_found, key_passed_over, one_key_passed, all_keys_passed, value_within}
use Rattle.ipld_paths.proofs.parts.value_of.Goals as goal

pub loop-more-init : goal.loop-more-init
loop-more-init c = no_key_passed _ _ _

pub returns-in_err-next-clause-found : goal.returns-in_err-next-clause-found
returns-in_err-next-clause-found c = rw c.from_residual.ensures (no_key_there (λ (s : Bor (List ℕ)). s.now) _ c.loop-more.rest.now _ _ _ (omega arith) c.loop-more.invariant c.in_err-next.ensures.key)

pub returns-then-eq-clause-found : goal.returns-then-eq-clause-found
returns-then-eq-clause-found c = value_found (λ (s : Bor (List ℕ)). s.now) c.in_ok-next.value _ c.loop-more.rest.now c.in_ok-next.next.now _ _ _ (omega arith) c.loop-more.invariant c.in_ok-next.ensures.key ((slice_eq-Decides Decides-eqb _ _ _ c.eq.ensures).0 c.if-eq.true)

pub returns-then-eq-clause-within : goal.returns-then-eq-clause-within
returns-then-eq-clause-within c = value_within _ c.loop-more.rest.now c.in_ok-next.value.now _ _ _ c.loop-more.invariant c.in_ok-next.ensures.within

pub returns-then-comes_before-clause-found : goal.returns-then-comes_before-clause-found
returns-then-comes_before-clause-found c = key_passed_over (λ (s : Bor (List ℕ)). s.now) _ c.loop-more.rest.now c.in_ok-next.next.now c.in_ok-next.value.now _ _ _ (omega arith) c.loop-more.invariant c.in_ok-next.ensures.key (let e = c.comes_before.ensures in let h = c.if-comes_before.true in cc)

pub returns-in_err-rest-clause-found : goal.returns-in_err-rest-clause-found
returns-in_err-rest-clause-found c = rw c.from_residual-in_err-rest.ensures (no_value_there (λ (s : Bor (List ℕ)). s.now) _ c.loop-more.rest.now c.in_ok-next.next.now c.in_ok-next.value.now _ _ _ (omega arith) c.loop-more.invariant c.in_ok-next.ensures.key (λ t rest f. one_found (λ (s : Bor (List ℕ)). s.now) c.in_ok-next.value.now rest t None c.in_err-rest.ensures f))

pub loop-more-preserved : goal.loop-more-preserved
loop-more-preserved c =
    let other : c.in_ok-next.next.now ≢ c.args.key.now = λ is. (let yes = (slice_eq-Decides Decides-eqb _ _ _ c.eq.ensures).1 is in let no = c.if-eq.false in cc) in
    one_key_passed _ c.loop-more.rest.now c.in_ok-next.next.now c.in_ok-next.value.now c.in_ok-rest.rest.now _ _ _ (omega arith) c.loop-more.invariant c.in_ok-next.ensures.key c.in_ok-next.ensures.within other (λ t r f. one_found (λ s. s) c.in_ok-next.value.now r t (Some c.in_ok-rest.rest.now) c.in_ok-rest.ensures f) (ends_within c.in_ok-next.value.now c.in_ok-rest.rest.now 1 c.in_ok-rest.ensures)

pub returns-clause-found : goal.returns-clause-found
returns-clause-found c = all_keys_passed (λ (s : Bor (List ℕ)). s.now) _ c.loop-more.rest.now _ _ _ (omega arith) c.loop-more.invariant
