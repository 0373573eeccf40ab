-- A refusal of a part is a refusal of the whole.
use Rattle.std.proofs.Common.{◌≡◌, ℕ, ◌<◌, List, sym, ap, ◌∙◌, arith, subst, Some, Result, Ok, Err, MatchResult, IsErrAnd}
use Rattle.dagcbor_heads.specs.Reading.{Reading, Stays}
use Rattle.dagcbor_core.specs.Causes.{ByteCause, HeadCause, IsFaultOrLack, IsEndNamed, IsPayloadNamed, IsNamed}
use Rattle.dagcbor_core.specs.Names.{Names}
use Rattle.dagcbor_heads.specs.Refusals.{Refuses, NoStep}
use Rattle.dagcbor_heads.specs.Inputs.{not_lending}
use Rattle.dagcbor_core.specs.declared.name.Name.{Name}
use Rattle.dagcbor_core.specs.declared.error.DecodeError.{DecodeError}
use Rattle.dagcbor_core.specs.declared.error.DecodeError.TheVariants.{Read, RequireBorrowed, OutOfMemory, Failed, Eof, Unsupported, DepthOverflow, IndefiniteSize, NonMinimal}

-- what a reader keeps between calls of a part, whatever its steps are
pub record SameReader (old mid : Reading) : Type 0 where
  pub faults : mid.faults ≡ old.faults
  pub lends : mid.lends ≡ old.lends

-- A call that continued with a part, although steps were spent, refuses what the part refuses.
pub refusal_carried : {E could could' lacks lacks' borrows borrows' : Type 0} (stands stands' : DecodeError E → List ℕ → Type 0) (old mid new : Reading) (e : DecodeError E)
    → SameReader old mid → (could' → could) → (lacks → lacks') → (borrows → borrows')
    → ((b : List ℕ) → old.left ≡ Some b → ((c : List ℕ) → mid.left ≡ Some c → stands e c) → stands' e b)
    → Refuses (record { could = could; lacks = lacks; borrows = borrows; stands = stands }) mid e new → Refuses (record { could = could'; lacks = lacks'; borrows = borrows'; stands = stands' }) old e new
refusal_carried stands stands' old mid new (Read e) h c k w s r = omega (arith, h.faults, r)
refusal_carried stands stands' old mid new OutOfMemory h c k w s r = (r.0 ∙ h.faults, k r.1)
refusal_carried stands stands' old mid new (RequireBorrowed n) h c k w s r = (r.0 ∙ h.faults, w r.1, sym h.lends ∙ r.2)
refusal_carried stands stands' old mid new Failed h c k w s r = r
refusal_carried stands stands' old mid new (DepthOverflow n) h c k w s r = (r.0 ∙ h.faults, λ x. r.1 (c x), λ b l. s b l r.2, r.3)
refusal_carried stands stands' old mid new _ h c k w s r = (r.0 ∙ h.faults, λ x. r.1 (c x), λ b l. s b l r.2)

-- A call that took the bytes from old to mid, and then calls a part, refuses what the part refuses.
pub passed_on : {E could could' lacks lacks' borrows borrows' : Type 0} (stands stands' : DecodeError E → List ℕ → Type 0) (old mid new : Reading) (e : DecodeError E)
    → Stays old mid → (could' → could) → (lacks → lacks') → (borrows → borrows')
    → ((b : List ℕ) → old.left ≡ Some b → (c : List ℕ) × (mid.left ≡ Some c) × (stands e c → stands' e b))
    → Refuses (record { could = could; lacks = lacks; borrows = borrows; stands = stands }) mid e new → Refuses (record { could = could'; lacks = lacks'; borrows = borrows'; stands = stands' }) old e new
passed_on stands stands' old mid new e h c k w s r = refusal_carried stands stands' old mid new e record { faults = h.faults; lends = h.lends } c k w
    (λ b l g. let at = s b l in at.2 (g at.0 at.1)) r

-- if no step was left, a call that needs one is refused
pub no_step_refused : {E could : Type 0} (lacks borrows : Type 0) (stands : DecodeError E → List ℕ → Type 0) {text : List ℕ} {old mid new : Reading} (e : DecodeError E) → Stays old mid → NoStep text mid e new → (could → 0 < old.steps)
    → ((n : Name) → Names n text → (b : List ℕ) → old.left ≡ Some b → stands (DepthOverflow n) b) → Refuses (record { could = could; lacks = lacks; borrows = borrows; stands = stands }) old e new
no_step_refused lacks borrows stands (DepthOverflow n) k h some cause =
    (ap (λ (r : Reading). r.faults) h.same ∙ k.faults, λ x. omega (arith, h.none, k.steps, some x), λ b l. cause n h.named b l, ap (λ (r : Reading). r.steps) h.same ∙ h.none)
no_step_refused lacks borrows stands _ k h some cause = absurd h.named

-- a cause of a byte, of a head or of a payload is a cause of what these begin
pub byte_in_head : {E : Type 0} (e : DecodeError E) (b : List ℕ) → ByteCause e b → HeadCause e b
byte_in_head (Eof n expect) b h = rw h.1 h.0
byte_in_head _ b h = absurd h

-- refusals of a part among those of the whole
pub payload_named : {E : Type 0} (text : List ℕ) (e : DecodeError E) → IsFaultOrLack e → IsPayloadNamed text e
payload_named text (Read x) h = tt
payload_named text OutOfMemory h = tt
payload_named text _ h = absurd h

pub end_named : {E : Type 0} (text : List ℕ) (e : DecodeError E) → IsEndNamed text e → IsNamed text e
end_named text (Unsupported n x) h = absurd h
end_named text IndefiniteSize h = absurd h
end_named text (NonMinimal n x) h = absurd h
end_named text _ h = h

-- the error that `?` returns
pub as_refusal : {T E : Type 0} (P : T → Type 0) (Q : DecodeError E → Type 0) (r : Result T (DecodeError E)) (e : DecodeError E) → IsErrAnd r (λ y. y ≡ e) → Q e → MatchResult r P Q
as_refusal P Q (Ok v) e h q = absurd h
as_refusal P Q (Err y) e h q = subst Q (sym h) q

-- what a reader refuses, the input over it refuses
pub unlent_refused : {E could could' lacks lacks' : Type 0} (stands : DecodeError E → List ℕ → Type 0) (old new : Reading) (e : DecodeError E) → (could' → could) → (lacks → lacks')
    → Refuses (record { could = could; lacks = lacks; borrows = ⊥; stands = stands }) old e new → Refuses (record { could = could'; lacks = lacks'; borrows = ⊥; stands = stands }) (not_lending old) e (not_lending new)
unlent_refused stands old new (Read e) c k r = r
unlent_refused stands old new OutOfMemory c k r = (r.0, k r.1)
unlent_refused stands old new (RequireBorrowed n) c k r = absurd r.1
unlent_refused stands old new Failed c k r = r
unlent_refused stands old new (DepthOverflow n) c k r = (r.0, λ x. r.1 (c x), r.2, r.3)
unlent_refused stands old new _ c k r = (r.0, λ x. r.1 (c x), r.2)
