-- Beginning a list or a map.
use Rattle.std.proofs.Common.{◌≡◌, ℕ, ◌<◌, List, sym, ap, ◌∙◌, arith}
use Rattle.dagcbor_heads.specs.Reading.{Reading, SpentStep, Stays}
use Rattle.dagcbor_core.specs.Causes.{IsDepthNamed}
use Rattle.dagcbor_core.specs.Names.{Names}
use Rattle.dagcbor_heads.specs.Refusals.{RefusesPlainly, NoStep}
use Rattle.dagcbor_core.specs.declared.name.Name.{Name}
use Rattle.dagcbor_core.specs.declared.error.DecodeError.{DecodeError}
use Rattle.dagcbor_core.specs.declared.error.DecodeError.TheVariants.{Mismatch, DepthOverflow}
use Rattle.dagcbor_heads.proofs.Refusing.{no_step_refused, SameReader, refusal_carried}
use Rattle.dagcbor_items.specs.AnsweredVariants.{OfByte, OfHead}
use Rattle.dagcbor_items.specs.Majors.{HasMajor}
use Rattle.dagcbor_items.specs.ReadCauses.{MajorCause}
use Rattle.dagcbor_items.proofs.PartRefusals.{byte_kind}
use Rattle.dagcbor_read.specs.Enums.{EnumState, IsOtherForm, OfForm}
use Rattle.dagcbor_items.specs.TypedReads.{NoStepIfDeep}
use Rattle.dagcbor_read.specs.Accessors.{HasHeadOf, EnterCause, OfBegin}

pub same_stepped : {old stepped : Reading} → SpentStep old stepped → SameReader old stepped
same_stepped s = record { faults = ap (λ (r : Reading). r.faults) s.is; lends = ap (λ (r : Reading). r.lends) s.is }

left_stepped : {old stepped : Reading} → SpentStep old stepped → stepped.left ≡ old.left
left_stepped s = ap (λ (r : Reading). r.left) s.is

-- no step was left
pub no_step_told : {E could : Type 0} (stands : DecodeError E → List ℕ → Type 0) {text : List ℕ} {old mid new : Reading} (e : DecodeError E) → Stays old mid → NoStep text mid e new → (could → 0 < old.steps)
    → ((n : Name) → Names n text → (b : List ℕ) → stands (DepthOverflow n) b) → RefusesPlainly could stands old e new × NoStepIfDeep old e
no_step_told {E} stands {text} {old} {mid} {new} e k h some cause = (no_step_refused ⊥ ⊥ stands e k h some (λ n named b l. cause n named b), none e h)
  where
    none : (e : DecodeError E) → NoStep text mid e new → NoStepIfDeep old e
    none (DepthOverflow n) h = sym k.steps ∙ h.none
    none _ h = tt

-- there was no head of the major type
pub major_entered : {E : Type 0} {old stepped : Reading} (major : ℕ) (name : List ℕ) (new : Reading)
    (e : DecodeError E) → SpentStep old stepped → OfHead e
    → RefusesPlainly (HasMajor major major stepped) (MajorCause name major major) stepped e new
    → RefusesPlainly (HasHeadOf major old) (EnterCause major name) old e new × NoStepIfDeep old e
major_entered {E} {old} {stepped} major name new e s of r = (
  refusal_carried (MajorCause name major major) (EnterCause major name) old stepped new e
      (same_stepped s) (head_stepped s) (λ x. x) (λ x. x)
      (λ b l f. cause e b of (f b (left_stepped s ∙ l))) r,
  shallow e of,
)
  where
    head_stepped : SpentStep old stepped → HasHeadOf major old → HasMajor major major stepped
    head_stepped s h = record {
      major = major;
      argument = h.count;
      rest = h.rest;
      lowest = omega arith;
      highest = omega arith;
      argument_fits = h.fits;
      left = left_stepped s ∙ h.left;
    }

    cause : (e : DecodeError E) (b : List ℕ) → OfHead e → MajorCause name major major e b → EnterCause major name e b
    cause (DepthOverflow n) b of h = absurd of
    cause e b of h = h

    shallow : (e : DecodeError E) → OfHead e → NoStepIfDeep old e
    shallow (DepthOverflow n) of = absurd of
    shallow _ of = tt

-- ---- refusals of a part among those of the whole

pub kind_begin : {E : Type 0} (e : DecodeError E) → OfHead e → OfBegin e
kind_begin (DepthOverflow n) h = tt
kind_begin _ h = h

pub depth_begin : {E : Type 0} (text : List ℕ) (e : DecodeError E) → IsDepthNamed text e → OfBegin e
depth_begin text (DepthOverflow n) h = tt
depth_begin text _ h = absurd h

-- those of the parts of a beginning
pub ruleset begins = (depth_begin, kind_begin)

pub byte_begin : {E : Type 0} (e : DecodeError E) → OfByte e → OfBegin e
byte_begin e h = kind_begin e (byte_kind e h)

pub other_byte : {E : Type 0} (form : EnumState) (e : DecodeError E) → IsOtherForm form e → OfByte e
other_byte form (Mismatch n found) h = tt
other_byte form _ h = absurd h

pub byte_form : {E : Type 0} (e : DecodeError E) → OfByte e → OfForm e
byte_form (DepthOverflow n) h = tt
byte_form _ h = h

pub depth_form : {E : Type 0} (text : List ℕ) (e : DecodeError E) → IsDepthNamed text e → OfForm e
depth_form text (DepthOverflow n) h = tt
depth_form text _ h = absurd h
