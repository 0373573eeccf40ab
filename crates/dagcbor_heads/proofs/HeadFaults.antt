-- Why a head is refused.
use Rattle.std.proofs.Common.{◌≡◌, ℕ, ◌+◌, ◌*◌, ◌/◌, ◌%◌, ◌^◌, ◌<◌, ◌≤◌, List, [], ◌∷◌, ◌++◌, refl, sym, ap, ◌∙◌, subst, arith, Some}
use Rattle.std.specs.Int.{bytes_high_first}
use Rattle.dagcbor_core.specs.Head.{head}
use Rattle.dagcbor_heads.specs.Reading.{Reading}
use Rattle.dagcbor_heads.specs.Fronts.{HasByte, HasHead, HasPayload, StartsWith, Takes, TakesHead}
use Rattle.dagcbor_core.specs.Causes.{ByteCause, ArgumentCause, HeadCause, argument_width, least_argument}
use Rattle.dagcbor_heads.specs.Refusals.{RefusesPlainly}
use Rattle.dagcbor_core.specs.declared.error.DecodeError.{DecodeError}
use Rattle.dagcbor_core.specs.declared.error.DecodeError.TheVariants.{Eof, NonMinimal}
use Rattle.dagcbor_core.specs.declared.name.Name.{Name}
use Rattle.dagcbor_core.proofs.Heads.{head_first, length-bytes_high_first, same_of_bytes}
use Rattle.dagcbor_core.proofs.HeadForms.{Begins, begins, small_head, wide_head}
use Rattle.dagcbor_heads.proofs.Refusing.{passed_on, byte_in_head}
use Rattle.dagcbor_heads.proofs.Taking.{takes_both, stays}

-- if a head is at the front, a byte is
pub head_has_byte : {r : Reading} → HasHead r → HasByte r
head_has_byte h =
    let f = head_first h.major h.argument h.argument_fits in
    record { byte = 32 * h.major + f.0; rest = f.1 ++ h.rest; left = h.left ∙ ap (λ s. Some (s ++ h.rest)) f.3 }

pub first_refused : {E : Type 0} (old new : Reading) (e : DecodeError E) → RefusesPlainly (HasByte old) ByteCause old e new → RefusesPlainly (HasHead old) HeadCause old e new
first_refused old new e r = passed_on ByteCause HeadCause old old new e (stays old) head_has_byte (λ x. x) (λ x. x) (λ b l. (b, l, byte_in_head e b)) r

-- what the first byte of the head at the front determines
pub head_begins : {old mid : Reading} {first : ℕ} → Takes old (first ∷ []) mid → (h : HasHead old) → (more : List ℕ) × (mid.left ≡ Some more) × Begins first more h.major h.argument h.rest
head_begins {old} {mid} {first} t h =
    let k = t.taken _ h.left in
    (k.0, k.2, begins first k.0 h.major h.argument h.rest h.argument_fits (sym k.1))

pub starts : {old mid : Reading} {first : ℕ} → Takes old (first ∷ []) mid → StartsWith old first
starts t b l = let k = t.taken b l in (k.0, k.1)

-- a reserved width, or an indefinite length
pub reserved_refused : (E : Type 0) {old mid : Reading} {first : ℕ} (e : DecodeError E) → Takes old (first ∷ []) mid → 28 ≤ first % 32 → ((more : List ℕ) → HeadCause e (first ∷ more))
    → (mid.faults ≡ old.faults) × (HasHead old → ⊥) × ((b : List ℕ) → old.left ≡ Some b → HeadCause e b)
reserved_refused E {old} {mid} {first} e t high stands = (
  t.same.faults,
  λ h. let k = head_begins t h in omega (arith, high, k.2.defined),
  λ b l. let k = t.taken b l in subst (HeadCause e) (sym k.1) (stands k.0),
)

-- a cut argument
argument_in_head : {E : Type 0} (e : DecodeError E) (first : ℕ) (more : List ℕ) → ArgumentCause (argument_width (first % 32)) e more → HeadCause e (first ∷ more)
argument_in_head (Eof n expect) first more h = h
argument_in_head _ first more h = absurd h

pub argument_refused : {E : Type 0} {old mid : Reading} {first width : ℕ} (new : Reading) (e : DecodeError E) → width ≡ argument_width (first % 32) → Takes old (first ∷ []) mid
    → RefusesPlainly (HasPayload width mid) (ArgumentCause width) mid e new → RefusesPlainly (HasHead old) HeadCause old e new
argument_refused {E} {old} {mid} {first} {width} new e is t r =
    passed_on (ArgumentCause width) HeadCause old mid new e t.same
    (λ h. let k = head_begins t h in record {
      payload = bytes_high_first (argument_width (first % 32)) h.argument;
      rest = h.rest;
      long = length-bytes_high_first (argument_width (first % 32)) h.argument ∙ sym is;
      left = k.1 ∙ ap Some k.2.following;
    })
    (λ x. x) (λ x. x)
    (λ b l. let k = t.taken b l in (k.0, k.2, λ c. subst (HeadCause e) (sym k.1) (argument_in_head e first k.0 (subst (λ w. ArgumentCause w e k.0) is c)))) r

-- a head that is longer than it need be
pub too_long : (E : Type 0) {old mid new : Reading} {first n width : ℕ} (name : Name) → width ≡ argument_width (first % 32) → 24 ≤ first % 32 → n < 256 ^ width → n < least_argument width
    → Takes old (first ∷ []) mid → Takes mid (bytes_high_first width n) new → RefusesPlainly {E = E} (HasHead old) HeadCause old (NonMinimal name first) new
too_long E {old} {mid} {new} {first} {n} {width} name is wide fits small t u = (
  u.same.faults ∙ t.same.faults,
  λ h. let k = head_begins t h in
      let q = u.taken k.0 k.1 in
      let w = argument_width (first % 32) in
      let at : bytes_high_first w n ++ q.0 ≡ bytes_high_first w h.argument ++ h.rest = ap (λ x. bytes_high_first x n ++ q.0) (sym is) ∙ sym q.1 ∙ k.2.following in
      let same : n ≡ h.argument = same_of_bytes w n h.argument q.0 h.rest (subst (λ x. n < 256 ^ x) is fits) (k.2.fits wide) at in
      omega (arith, same, subst (λ x. n < least_argument x) is small, k.2.least),
  λ b l. let k = t.taken b l in
      let q = u.taken k.0 k.2 in
      subst (HeadCause {E = E} (NonMinimal name first)) (sym k.1) (refl, (n, q.0, subst (λ x. n < least_argument x) is small, q.1 ∙ ap (λ x. bytes_high_first x n ++ q.0) is)),
)

-- ---- the head that was found

pub small_found : {old mid : Reading} {first : ℕ} → first < 256 → first % 32 < 24 → Takes old (first ∷ []) mid → TakesHead old (first / 32) (first % 32) first mid
small_found {old} {mid} {first} byte small t = record {
  major_fits = omega arith;
  argument_fits = omega arith;
  major_of_first = refl;
  starts = starts t;
  takes = subst (λ bs. Takes old bs mid) (sym (small_head first small)) t;
}

pub wide_found : {old mid new : Reading} {first n width : ℕ} → first < 256 → width ≡ argument_width (first % 32) → 24 ≤ first % 32 → first % 32 ≤ 27 → n < 2 ^ 64 → n < 256 ^ width → least_argument width ≤ n
    → Takes old (first ∷ []) mid → Takes mid (bytes_high_first width n) new → TakesHead old (first / 32) n first new
wide_found {old} {mid} {new} {first} {n} {width} byte is wide defined fits room least t u =
    let whole : head (first / 32) n ≡ first ∷ bytes_high_first width n = wide_head first n wide defined (subst (λ x. least_argument x ≤ n) is least) (subst (λ x. n < 256 ^ x) is room) ∙ ap (λ x. first ∷ bytes_high_first x n) (sym is) in
    record {
      major_fits = omega arith;
      argument_fits = fits;
      major_of_first = refl;
      starts = starts t;
      takes = subst (λ bs. Takes old bs new) (sym whole) (takes_both t u);
    }
