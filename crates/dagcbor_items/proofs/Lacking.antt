-- Memory runs out only for strings that are not empty.
use Rattle.std.proofs.Common.{◌≡◌, ℕ, zero, suc, ◌<◌, List, refl, arith, Option, Result, Ok, Err, IsOk, IfErr}
use Rattle.dagcbor_heads.specs.Reading.{Reading}
use Rattle.dagcbor_heads.specs.Fronts.{ShowsByte}
use Rattle.dagcbor_core.specs.Causes.{IsNamed}
use Rattle.dagcbor_heads.specs.Refusals.{RefusesPlainly}
use Rattle.dagcbor_core.specs.declared.error.DecodeError.{DecodeError}
use Rattle.dagcbor_core.specs.declared.error.DecodeError.TheVariants.{OutOfMemory}
use Rattle.dagcbor_items.specs.Majors.{HasMajor, TakesMajor, LacksForString}
use Rattle.dagcbor_items.specs.ReadCauses.{MajorCause}
use Rattle.dagcbor_items.proofs.StringReads.{of_kind}

-- the refusal of a head is not out of memory
pub head_lacks : {E : Type 0} (text : List ℕ) (kind : ℕ) (left : Option (List ℕ)) (e : DecodeError E) → IsNamed text e → LacksForString kind left e
head_lacks text kind left OutOfMemory h = absurd h
head_lacks text kind left _ h = tt

-- nor is the refusal when no byte of the major type is there
pub major_lacks : {E : Type 0} (name : List ℕ) (low high kind : ℕ) (left : Option (List ℕ)) (old new : Reading) (e : DecodeError E) → RefusesPlainly (HasMajor low high old) (MajorCause name low high) old e new → LacksForString kind left e
major_lacks name low high kind left old new OutOfMemory h = absurd h.1
major_lacks name low high kind left old new _ h = tt

-- the payload of an empty string takes no memory
pub payload_lacks : {T E : Type 0} {kind m n : ℕ} {old mid : Reading} (r : Result T (DecodeError E)) → TakesMajor kind kind old m n mid → (n ≡ 0 → IsOk r) → IfErr r (LacksForString kind old.left)
payload_lacks (Ok v) t some = tt
payload_lacks {T} {E} {kind} {m} {n} (Err OutOfMemory) t some = λ b l.
    let k = (of_kind t).taken b l in
    (n, k.0, positive n (λ none. absurd (cc (some none))), t.argument_fits, k.1)
  where
    positive : (n : ℕ) → (n ≡ 0 → ⊥) → 0 < n
    positive zero none = absurd (none refl)
    positive (suc n) none = omega arith
payload_lacks (Err _) t some = tt

-- after a byte that was shown
pub shown_lacks : {T E : Type 0} (kind : ℕ) {first : ℕ} {old mid : Reading} (r : Result T (DecodeError E)) → ShowsByte old first mid → IfErr r (LacksForString kind mid.left) → IfErr r (LacksForString kind old.left)
shown_lacks kind (Ok v) h k = tt
shown_lacks kind (Err OutOfMemory) h k = λ b l. k b (h.kept b l)
shown_lacks kind (Err _) h k = tt
