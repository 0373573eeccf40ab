-- How many bytes were looked at.
use Rattle.std.proofs.Common.{◌≡◌, ℕ, ◌<◌, ◌+◌, ◌*◌, ◌≤◌, min, List, [], ◌∷◌, ◌++◌, length, ap, arith, length-append, mul-le-mul_left, Some}
use Rattle.dagcbor_heads.specs.Reading.{Reading, Shows, Fails, Advances}
use Rattle.dagcbor_heads.specs.Fronts.{Takes, Gathers}
use Rattle.dagcbor_heads.specs.Looking.{LooksOnce, LooksAtTaken, LooksAtSome, LooksAtLeft, LooksAtMost}
use Rattle.dagcbor_heads.proofs.Taking.{shown_whole}

-- ---- one fill

-- what is shown is no longer than what is left
shown_le : (b shown rest : List ℕ) → b ≡ shown ++ rest → length shown ≤ length b
shown_le b shown rest e = omega (arith, ap length e, length-append shown rest)

shown_few : {old mid : Reading} {want : ℕ} (b : List ℕ) → Shows old want mid → old.left ≡ Some b → length mid.shown ≤ length b
shown_few {old} {mid} b h l = shown_le b mid.shown _ (shown_whole b mid.shown (h.front b l).front)

pub once_shown : {old mid : Reading} → Shows old 1 mid → LooksOnce old mid
once_shown {old} {mid} h = record { grows = omega (arith, h.looked); one = omega (arith, h.looked); left = λ b l. omega (arith, h.looked, shown_few b h l) }

pub once_failed : {old new : Reading} → Fails old new → LooksOnce old new
once_failed {old} {new} h = record { grows = omega (arith, h.looked); one = omega (arith, h.looked); left = λ b l. omega (arith, h.looked) }

-- ---- bytes that were taken

pub once_left : {old new : Reading} → LooksOnce old new → LooksAtLeft 2 0 old new
once_left {old} {new} o = record { grows = o.grows; most = λ b l. omega (arith, o.left b l) }

pub byte_looked : {old mid new : Reading} {byte : ℕ} → LooksOnce old mid → Advances mid 1 new → Takes old (byte ∷ []) new → LooksAtTaken 2 0 old new
byte_looked {old} {mid} {new} o a t = record {
  grows = omega (arith, o.grows, a.looked);
  most = λ b l. let k = t.taken b l in (k.0, 1, k.2, omega (arith, ap length k.1), omega (arith, o.one, a.looked));
  none_shown = a.none_shown (omega arith);
}

pub gathered_looked : {old mid new : Reading} {want n : ℕ} {before after : List ℕ} → Shows old want mid → n ≡ min want (length mid.shown) → 0 < n → Advances mid n new → Gathers old before want n after new → LooksAtSome 2 old new
gathered_looked {old} {mid} {new} {want} {n} h is some a g = record {
  grows = omega (arith, h.looked, a.looked);
  most = λ b l.
      let k = g.takes.taken b l in
      (k.0, n, k.2, omega (arith, ap length k.1, length-append g.bytes k.0, g.counted), omega (arith, h.looked, is, a.looked));
  none_shown = λ e. a.none_shown some;
}

pub gathered_most : {old mid new : Reading} {want n : ℕ} → Shows old want mid → n ≡ min want (length mid.shown) → Advances mid n new → LooksAtMost (2 * n) old new
gathered_most {old} {mid} {new} {want} {n} h is a = omega (arith, h.looked, is, a.looked)

-- ---- calls one after the other

pub nothing_looked : {times : ℕ} (r : Reading) → LooksAtSome times r r
nothing_looked r = record { grows = omega arith; most = λ b l. (b, 0, l, omega arith, omega arith); none_shown = λ e. e }

pub looks_both : {times before : ℕ} {old mid new : Reading} → LooksAtTaken times before old mid → LooksAtTaken times 0 mid new → LooksAtTaken times before old new
looks_both {times} {before} {old} {mid} {new} h k = record {
  grows = omega (arith, h.grows, k.grows);
  most = λ b l.
      let p = h.most b l in
      let q = k.most p.0 p.2 in
      (q.0, p.1 + q.1, q.2, omega (arith, p.3, q.3), omega (arith, p.4, q.4));
  none_shown = k.none_shown;
}

-- some bytes, or no byte, after those that were taken
pub looks_more : {times before : ℕ} {old mid new : Reading} → LooksAtTaken times before old mid → LooksAtSome times mid new → LooksAtTaken times before old new
looks_more {times} {before} {old} {mid} {new} h k = record {
  grows = omega (arith, h.grows, k.grows);
  most = λ b l.
      let p = h.most b l in
      let q = k.most p.0 p.2 in
      (q.0, p.1 + q.1, q.2, omega (arith, p.3, q.3), omega (arith, p.4, q.4));
  none_shown = k.none_shown h.none_shown;
}

pub some_taken : {times : ℕ} {old new : Reading} → LooksAtTaken times 0 old new → LooksAtSome times old new
some_taken {times} {old} {new} h = record {
  grows = h.grows;
  most = λ b l. let p = h.most b l in (p.0, p.1, p.2, p.3, omega (arith, p.4));
  none_shown = λ e. h.none_shown;
}

pub some_both : {times : ℕ} {old mid new : Reading} → LooksAtSome times old mid → LooksAtSome times mid new → LooksAtSome times old new
some_both {times} {old} {mid} {new} h k = record {
  grows = omega (arith, h.grows, k.grows);
  most = λ b l.
      let p = h.most b l in
      let q = k.most p.0 p.2 in
      (q.0, p.1 + q.1, q.2, omega (arith, p.3, q.3), omega (arith, p.4, q.4));
  none_shown = λ e. k.none_shown (h.none_shown e);
}

pub some_then : {times : ℕ} {old mid new : Reading} → LooksAtSome times old mid → LooksAtLeft times 0 mid new → LooksAtLeft times 0 old new
some_then {times} {old} {mid} {new} h k = record {
  grows = omega (arith, h.grows, k.grows);
  most = λ b l. let p = h.most b l in omega (arith, p.3, p.4, k.most p.0 p.2, ap (λ n. times * n) p.3);
}

pub some_left : {times : ℕ} {old new : Reading} → LooksAtSome times old new → LooksAtLeft times 0 old new
some_left {times} {old} {new} h = record {
  grows = h.grows;
  most = λ b l. let p = h.most b l in let few : p.1 ≤ length b = omega (arith, p.3) in omega (arith, p.4, mul-le-mul_left times few);
}

pub looks_then : {times before : ℕ} {old mid new : Reading} → LooksAtTaken times before old mid → LooksAtLeft times 0 mid new → LooksAtLeft times before old new
looks_then {times} {before} {old} {mid} {new} h k = record {
  grows = omega (arith, h.grows, k.grows);
  most = λ b l. let p = h.most b l in omega (arith, p.3, p.4, k.most p.0 p.2, ap (λ n. times * n) p.3);
}

-- a call that took some bytes and is refused nevertheless
pub taken_left : {times before : ℕ} {old new : Reading} → LooksAtTaken times before old new → LooksAtLeft times before old new
taken_left {times} {before} {old} {new} h = record {
  grows = h.grows;
  most = λ b l. let p = h.most b l in let few : p.1 ≤ length b = omega (arith, p.3) in omega (arith, p.4, mul-le-mul_left times few);
}

-- ---- inputs

pub lent_looked : {old new : Reading} {bytes : List ℕ} {n : ℕ} → length bytes ≡ n → Takes old bytes new → new.looked ≡ old.looked + n → new.shown ≡ [] → LooksAtTaken 2 0 old new
lent_looked {old} {new} {bytes} {n} long t e none = record {
  grows = omega (arith, e);
  most = λ b l. let k = t.taken b l in (k.0, n, k.2, omega (arith, ap length k.1, length-append bytes k.0, long), omega (arith, e));
  none_shown = none;
}

pub same_looked : {times : ℕ} {old new : Reading} → new.looked ≡ old.looked → LooksAtLeft times 0 old new
same_looked {times} {old} {new} e = record { grows = omega (arith, e); most = λ b l. omega (arith, e) }
