-- What stays the same over a part: steps that were spent on it, and whether memory may run out.
use Rattle.std.proofs.Common.{◌≡◌, ℕ, ◌+◌, Bool, true, false, ◌||◌, refl, sym, ap, ◌∙◌, arith}
use Rattle.dagcbor_heads.specs.Reading.{Reading, Stays, with_steps}
use Rattle.dagcbor_items.specs.Shapes.{unless_lent}

-- ---- steps that are given back

-- a step was taken, and nothing else changed
pub record Entered (old mid : Reading) : Type 0 where
  pub steps : mid.steps + 1 ≡ old.steps
  pub budget : mid.budget ≡ old.budget
  pub lends : mid.lends ≡ old.lends
  pub faults : mid.faults ≡ old.faults
  pub through : mid.through ≡ old.through

-- it was given back
pub given_back : {old mid now new : Reading} {n : ℕ} → Entered old mid → Stays mid now → n ≡ 1 → new ≡ with_steps (now.steps + n) now → Stays old new
given_back {old} {mid} {now} {new} {n} i s one back = record {
  steps = omega (arith, ap (λ (r : Reading). r.steps) back, s.steps, i.steps, one);
  budget = ap (λ (r : Reading). r.budget) back ∙ s.budget ∙ i.budget;
  lends = ap (λ (r : Reading). r.lends) back ∙ s.lends ∙ i.lends;
  faults = ap (λ (r : Reading). r.faults) back ∙ s.faults ∙ i.faults;
  through = ap (λ (r : Reading). r.through) back ∙ s.through ∙ i.through;
}

-- ---- memory

pub or_left : (a b : Bool) → a ≡ true → (a || b) ≡ true
or_left true b e = refl
or_left false b e = absurd (cc e)

pub or_right : (a b : Bool) → b ≡ true → (a || b) ≡ true
or_right true b e = refl
or_right false b e = e

-- if memory may run out for a reader, it may for the reader before, which lends the same
pub lacks_before : (memory : Bool → Bool) {old mid : Bool} → mid ≡ old → memory mid ≡ true → memory old ≡ true
lacks_before memory same h = ap memory (sym same) ∙ h

-- what is not lent takes memory
pub lacks_unlent : {old mid : Bool} → mid ≡ old → mid ≡ false → unless_lent old ≡ true
lacks_unlent same h = ap unless_lent (sym same ∙ h)
