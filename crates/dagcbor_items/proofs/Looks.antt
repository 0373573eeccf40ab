-- How many bytes the reads of items look at.
use Rattle.std.proofs.Common.{◌≡◌, ℕ, ◌+◌, ◌≤◌, ◌<◌, List, [], ◌∷◌, length, ap, ◌∙◌, arith, length-append, mul-le-mul_right, Some, Option, Result, Ok, Err}
use Rattle.dagcbor_core.specs.Head.{head}
use Rattle.dagcbor_heads.specs.Reading.{Reading, with_steps}
use Rattle.dagcbor_heads.specs.Fronts.{ShowsByte, Takes, TakesHead}
use Rattle.dagcbor_core.specs.declared.error.DecodeError.{DecodeError}
use Rattle.dagcbor_heads.specs.Looking.{Looks, LooksSome, LooksAfter, LooksOnce, LooksAtTaken, LooksAtLeft}
use Rattle.dagcbor_core.proofs.Heads.{head_first}
use Rattle.dagcbor_heads.proofs.Looking.{looks_both, looks_more, looks_then}
use Rattle.ipld_tree.specs.Tree.{Tree}
use Rattle.dagcbor_items.specs.Untyped.{StartsWithMajor}
use Rattle.dagcbor_items.specs.TypedReads.{Reads, TakesFront}
use Rattle.dagcbor_items.specs.Shapes.{Shape, leaf}
use Rattle.dagcbor_items.proofs.Fronts.{shorter}

-- ---- more looks are allowed

pub taken_more : {times before : ℕ} {old new : Reading} (less : ℕ) → less ≤ times → LooksAtTaken less before old new → LooksAtTaken times before old new
taken_more {times} {before} {old} {new} less few h = record {
  grows = h.grows;
  most = λ b l. let p = h.most b l in (p.0, p.1, p.2, p.3, omega (arith, p.4, mul-le-mul_right p.1 few));
  none_shown = h.none_shown;
}

-- what a call looks at after another one
pub looks_after : {T E : Type 0} {times before : ℕ} {old mid : Reading} (new : Reading) (r : Result T E) → LooksAtTaken times before old mid → Looks times mid r new → LooksAfter times before old r new
looks_after new (Ok v) h k = looks_both h k
looks_after new (Err e) h k = looks_then h k

pub looks_after_some : {T E : Type 0} {times before : ℕ} {old mid : Reading} (new : Reading) (r : Result T E) → LooksAtTaken times before old mid → LooksSome times mid r new → LooksAfter times before old r new
looks_after_some new (Ok v) h k = looks_more h k
looks_after_some new (Err e) h k = looks_then h k

-- ---- if a byte is at the front, one more look was free

-- the call took a byte
taken_first : {times : ℕ} {old new : Reading} → LooksAtTaken times 0 old new → ((b : List ℕ) → old.left ≡ Some b → (rest : List ℕ) × (new.left ≡ Some rest) × (length rest < length b)) → LooksAtTaken (times + 1) 1 old new
taken_first {times} {old} {new} h some = record {
  grows = h.grows;
  most = λ b l.
      let p = h.most b l in
      let q = some b l in
      let same : p.0 ≡ q.0 = cc (p.2, q.1) in
      (p.0, p.1, p.2, p.3, omega (arith, p.3, p.4, q.2, ap length same));
  none_shown = h.none_shown;
}

left_first : {times : ℕ} {old new : Reading} → LooksAtLeft times 0 old new → ((b : List ℕ) → old.left ≡ Some b → 1 ≤ length b) → LooksAtLeft (times + 1) 1 old new
left_first {times} {old} {new} h some = record { grows = h.grows; most = λ b l. omega (arith, h.most b l, some b l) }

pub head_taken : {m n first : ℕ} {old new : Reading} → LooksAtTaken 2 0 old new → TakesHead old m n first new → LooksAtTaken 3 1 old new
head_taken {m} {n} {first} {old} {new} h t = taken_first h (λ b l.
    let k = t.takes.taken b l in
    let f = head_first m n t.argument_fits in
    (k.0, k.2, omega (arith, ap length k.1, length-append (head m n) k.0, ap length f.3)))

pub front_looked : {V : Type 0} {shape : Shape Tree V} {v : V} {old new : Reading} → LooksAtTaken 2 0 old new → TakesFront shape old v new → LooksAtTaken 3 1 old new
front_looked h a = taken_first h (λ b l. let k = a.taken b l in (k.1, k.5, shorter b k.1 k.0 k.2))

pub major_left : {times m : ℕ} {old new : Reading} → StartsWithMajor old m → LooksAtLeft times 0 old new → LooksAtLeft (times + 1) 1 old new
major_left {times} {m} {old} {new} starts h = left_first h (λ b l. let s = starts b l in omega (arith, ap length s.2))

-- nothing was looked at
pub major_unread : {m : ℕ} {old new : Reading} → StartsWithMajor old m → new.looked ≡ old.looked → LooksAtLeft 3 1 old new
major_unread {m} {old} {new} starts e = record { grows = omega (arith, e); most = λ b l. let s = starts b l in omega (arith, e, ap length s.2) }

-- ---- after a byte that was looked at, and stayed

pub once_left_more : {old new : Reading} (times : ℕ) → 1 ≤ times → LooksOnce old new → LooksAtLeft times 0 old new
once_left_more {old} {new} times some o = record { grows = o.grows; most = λ b l. omega (arith, o.left b l, mul-le-mul_right (length b) some) }

pub peeked_taken : {times byte : ℕ} {old mid new : Reading} → LooksOnce old mid → ShowsByte old byte mid → LooksAtTaken times 1 mid new → LooksAtTaken times 0 old new
peeked_taken {times} {byte} {old} {mid} {new} o s h = record {
  grows = omega (arith, o.grows, h.grows);
  most = λ b l. let p = h.most b (s.kept b l) in (p.0, p.1, p.2, p.3, omega (arith, o.one, p.4));
  none_shown = h.none_shown;
}

pub peeked_left : {times byte : ℕ} {old mid new : Reading} → LooksOnce old mid → ShowsByte old byte mid → LooksAtLeft times 1 mid new → LooksAtLeft times 0 old new
peeked_left {times} {byte} {old} {mid} {new} o s h = record { grows = omega (arith, o.grows, h.grows); most = λ b l. omega (arith, o.one, h.most b (s.kept b l)) }

pub looks_after_peek : {T E : Type 0} {byte : ℕ} {old mid : Reading} (times : ℕ) (new : Reading) (r : Result T E) → LooksOnce old mid → ShowsByte old byte mid → LooksAfter times 1 mid r new → Looks times old r new
looks_after_peek times new (Ok v) o s h = peeked_taken o s h
looks_after_peek times new (Err e) o s h = peeked_left o s h

-- a value after a byte that was peeked at
pub peeked_value : {T V E : Type 0} (times : ℕ) (meaning : T → V) (view : Tree → Option V) (lacks : Reading → Type 0) (stands : DecodeError E → List ℕ → Type 0) {first : ℕ} {old mid : Reading} (new : Reading) (r : Result T (DecodeError E)) → LooksOnce old mid → ShowsByte old first mid
    → Reads meaning (leaf view) (lacks mid) ⊥ stands mid r new → Looks times mid r new → Looks (times + 1) old r new
peeked_value times meaning view lacks stands new (Ok v) o s a h = peeked_taken o s (taken_first h (λ b l. let k = a.taken b l in (k.1, k.5, shorter b k.1 k.0 k.2)))
peeked_value times meaning view lacks stands new (Err e) o s a h = peeked_left o s (left_first h (λ b l. let k = s.still b l in omega (arith, ap length k.1)))

-- a byte was taken, and more after it
pub one_byte_taken : {times byte : ℕ} {old new : Reading} → LooksAtTaken times 0 old new → Takes old (byte ∷ []) new → LooksAtTaken (times + 1) 1 old new
one_byte_taken {times} {byte} {old} {new} h t = taken_first h (λ b l. let k = t.taken b l in (k.0, k.2, omega (arith, ap length k.1)))

-- ---- steps are no looks

pub looks_stepped : {times before k : ℕ} {old stepped now new : Reading} → (j : ℕ) → stepped ≡ with_steps j old → LooksAtTaken times before stepped now → new ≡ with_steps k now → LooksAtTaken times before old new
looks_stepped {times} {before} {k} {old} {stepped} {now} {new} j into h out = record {
  grows = omega (arith, h.grows, ap (λ (r : Reading). r.looked) into, ap (λ (r : Reading). r.looked) out);
  most = λ b l.
      let p = h.most b (ap (λ (r : Reading). r.left) into ∙ l) in
      (p.0, p.1, ap (λ (r : Reading). r.left) out ∙ p.2, p.3, omega (arith, p.4, ap (λ (r : Reading). r.looked) into, ap (λ (r : Reading). r.looked) out));
  none_shown = ap (λ (r : Reading). r.shown) out ∙ h.none_shown;
}

pub stepped_left : {times before : ℕ} {old stepped new : Reading} (j : ℕ) → stepped ≡ with_steps j old → LooksAtLeft times before stepped new → LooksAtLeft times before old new
stepped_left {times} {before} {old} {stepped} {new} j into h = record {
  grows = omega (arith, h.grows, ap (λ (r : Reading). r.looked) into);
  most = λ b l. omega (arith, h.most b (ap (λ (r : Reading). r.left) into ∙ l), ap (λ (r : Reading). r.looked) into);
}
