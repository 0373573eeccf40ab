-- Calls within calls.
use Rattle.std.proofs.Common.{◌≡◌, Bool, true, false, refl, sym, ap, subst, Result, Ok, Err, IsErrAnd, is_err, MatchBool}
use Rattle.dagcbor_heads.specs.Reading.{Reading}
use Rattle.dagcbor_core.specs.declared.error.DecodeError.{DecodeError}
use Rattle.dagcbor_core.specs.declared.error.DecodeError.TheVariants.{Failed}
use Rattle.dagcbor_read.specs.Deserializers.{DeState, Call}

-- the cases of a test
pub match_true : (b : Bool) (P Q : Type 0) → b ≡ true → MatchBool b P Q → P
match_true true P Q e h = h
match_true false P Q e h = absurd (cc e)

pub match_false : (b : Bool) (P Q : Type 0) → b ≡ false → MatchBool b P Q → Q
match_false true P Q e h = absurd (cc e)
match_false false P Q e h = h

by_false : (b : Bool) (P Q : Type 0) → b ≡ false → Q → MatchBool b P Q
by_false true P Q e h = absurd (cc e)
by_false false P Q e h = h

-- a Deserializer that had failed returns `Failed`
abbrev IsFailed : {T E : Type 0} → Result T (DecodeError E) → Type 0
IsFailed r = r ≡ Err Failed

not_failed : (T E : Type 0) (failed : Bool) (v : T) (Same Q : Type 0) → MatchBool failed (IsFailed {T = T} {E = E} (Ok v) × Same) Q → (failed ≡ false) × Q
not_failed T E true v Same Q h = absurd (cc h.0)
not_failed T E false v Same Q h = (refl, h)

-- a call that succeeded
pub call_answered : {T E : Type 0} (reads : Reading → Result T (DecodeError E) → Reading → Type 0) (old new : DeState) (v : T) → Call reads old (Ok v) new
    → (old.failed ≡ false) × (new.failed ≡ false) × reads old.input (Ok v) new.input
call_answered {T} {E} reads old new v h = let k = not_failed T E old.failed v (new ≡ old) _ h in (k.0, k.1.0, k.1.1)

-- a call on what had not failed
pub call_told : {T E : Type 0} (reads : Reading → Result T (DecodeError E) → Reading → Type 0) (old new : DeState) (r : Result T (DecodeError E)) → old.failed ≡ false → Call reads old r new
    → (new.failed ≡ is_err r) × reads old.input r new.input
call_told reads old new r sound h = match_false old.failed _ _ sound h

pub call_of : {T E : Type 0} (reads : Reading → Result T (DecodeError E) → Reading → Type 0) (old new : DeState) (r : Result T (DecodeError E)) → old.failed ≡ false
    → (new.failed ≡ is_err r) × reads old.input r new.input → Call reads old r new
call_of reads old new r sound h = by_false old.failed _ _ sound h

-- the error that `?` passes on
pub call_refused : {T E : Type 0} (reads : Reading → Result T (DecodeError E) → Reading → Type 0) (old new : DeState) (r : Result T (DecodeError E)) (e : DecodeError E) → IsErrAnd r (λ y. y ≡ e)
    → Call reads old (Err e) new → Call reads old r new
call_refused reads old new (Ok v) e h q = absurd h
call_refused reads old new (Err y) e h q = subst (λ x. Call reads old (Err x) new) (sym h) q

is_failed : (T U E : Type 0) (e : DecodeError E) → IsFailed {T = T} (Err e) → IsFailed {T = U} (Err e)
is_failed T U E e h = let same : e ≡ Failed = cc h in ap (λ x. Err x) same

failure_passed : (T U E : Type 0) (failed : Bool) (e : DecodeError E) (Same Q Q' : Type 0) → (Q → Q') → MatchBool failed (IsFailed {T = T} (Err e) × Same) Q → MatchBool failed (IsFailed {T = U} (Err e) × Same) Q'
failure_passed T U E true e Same Q Q' f h = (is_failed T U E e h.0, h.1)
failure_passed T U E false e Same Q Q' f h = f h

-- the refusal of a call with the same cause, as a refusal of the whole
pub call_passed_on : {T U E : Type 0} (reads : Reading → Result T (DecodeError E) → Reading → Type 0) (reads' : Reading → Result U (DecodeError E) → Reading → Type 0) (old new : DeState) (e : DecodeError E)
    → (reads old.input (Err e) new.input → reads' old.input (Err e) new.input) → Call reads old (Err e) new → Call reads' old (Err e) new
call_passed_on {T} {U} {E} reads reads' old new e f h = failure_passed T U E old.failed e _ _ _ (λ k. (k.0, f k.1)) h

-- ---- a call that begins, and reads by another

-- what beginning a call did: it counts as refused until it returns
abbrev Begun : DeState → DeState → Type 0
Begun old mid = (old.failed ≡ false) × (mid ≡ record { input = old.input; failed = true })

pub begun_and_read : {T E : Type 0} (reads : Reading → Result T (DecodeError E) → Reading → Type 0)
    (old mid : DeState) (v : T) (now : Reading) → Begun old mid → reads mid.input (Ok v) now
    → Call reads old (Ok v) (record { input = now; failed = false })
begun_and_read reads old mid v now b r =
    call_of reads old _ (Ok v) b.0 (refl, subst (λ (p : DeState). reads p.input (Ok v) now) b.1 r)

-- the error that `?` passes on
pub begun_and_refused : {T E : Type 0} (reads : Reading → Result T (DecodeError E) → Reading → Type 0)
    (old mid : DeState) (r : Result T (DecodeError E)) (e : DecodeError E) (now : Reading)
    → Begun old mid → IsErrAnd r (λ y. y ≡ e) → reads mid.input (Err e) now
    → Call reads old r (record { input = now; failed = mid.failed })
begun_and_refused reads old mid r e now b h q =
    call_refused reads old _ r e h
    (call_of reads old (record { input = now; failed = mid.failed }) (Err e) b.0
    (ap (λ (p : DeState). p.failed) b.1, subst (λ (p : DeState). reads p.input (Err e) now) b.1 q))
