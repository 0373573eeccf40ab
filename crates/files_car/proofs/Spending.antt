-- How much of a file is left.
use Rattle.std.proofs.Common.{◌≡◌, ℕ, ◌+◌, ◌*◌, ◌<◌, ◌≤◌, min, List, [], ◌∷◌, ◌++◌, length, length-append, length-take, take, refl, sym, ap, ◌∙◌, subst, arith, Option, None, Some, option_map, Result, Ok, Err, MatchResult}
use lib.Seq.{take-append-add}
use Rattle.dagcbor_heads.specs.Reading.{Reading}
use Rattle.dagcbor_heads.specs.Fronts.{Takes}
use Rattle.dagcbor_heads.specs.Looking.{LooksAtMost, LooksAtTaken, LooksAtSome, LooksAtLeft, Looks, LooksSome}
use Rattle.dagcbor_heads.proofs.Taking.{nothing_taken, takes_both}
use Rattle.files_car.specs.Extents.{bytes_within, wanting, of_file, Spends, TakesOff}
use Rattle.files_car.specs.Sources.{CarRefuses, IsShort}
use Rattle.files_car.specs.Steps.{ExceedsExtent}
use Rattle.files_car.specs.declared.error.CarError.{CarError}
use Rattle.files_car.specs.declared.error.CarError.TheVariants.{Read, Truncated, OutOfMemory}

-- ---- the bytes left of the file

-- known bytes of the file are those of known bytes
pub known : (x : Option ℕ) (o : Option (List ℕ)) (c : List ℕ) → option_map (bytes_within x) o ≡ Some c → (b : List ℕ) × (o ≡ Some b) × (c ≡ bytes_within x b)
known x None c e = absurd (cc e)
known x (Some b) c e = let same : bytes_within x b ≡ c = cc e in (b, refl, sym same)

-- after the front the rest of the file is left
pub within_after : (x y : Option ℕ) (front rest : List ℕ) → Spends x (length front) y → bytes_within x (front ++ rest) ≡ front ++ bytes_within y rest
within_after None None front rest e = refl
within_after None (Some m) front rest e = absurd (cc e)
within_after (Some n) None front rest e = absurd (cc e)
within_after (Some n) (Some m) front rest e =
    let sum : n ≡ length front + m = (let h : n ≡ m + length front = cc e in omega (arith, h)) in
    ap (λ k. take k (front ++ rest)) sum ∙ take-append-add front rest m

pub wanting_after : (x y : Option ℕ) (front rest : List ℕ) → Spends x (length front) y → wanting y rest ≡ wanting x (front ++ rest)
wanting_after None None front rest e = refl
wanting_after None (Some m) front rest e = absurd (cc e)
wanting_after (Some n) None front rest e = absurd (cc e)
wanting_after (Some n) (Some m) front rest e =
    let h : n ≡ m + length front = cc e in
    omega (arith, h, length-append front rest)

-- ---- spent bytes

pub spends_none : (x : Option ℕ) → Spends x 0 x
spends_none None = refl
spends_none (Some n) = ap Some (omega arith)

pub spends_both : (x y z : Option ℕ) (j k : ℕ) → Spends x j y → Spends y k z → Spends x (j + k) z
spends_both x y None j k e f = e ∙ ap (option_map (λ m. m + j)) f
spends_both x y (Some m) j k e f = e ∙ ap (option_map (λ m. m + j)) f ∙ ap Some (omega arith)

pub off_none : (x : Option ℕ) (r : Reading) → TakesOff x r [] x r
off_none x r = record { takes = nothing_taken r; spends = spends_none x }

pub off_both : {x y z : Option ℕ} {old mid new : Reading} {a b : List ℕ} → TakesOff x old a y mid → TakesOff y mid b z new → TakesOff x old (a ++ b) z new
off_both {x} {y} {z} {old} {mid} {new} {a} {b} h k = record { takes = takes_both h.takes k.takes; spends = subst (λ n. Spends x n z) (sym (length-append a b)) (spends_both x y z (length a) (length b) h.spends k.spends) }

-- bytes taken within the file are taken off the reader, seen as having the file only
pub off_within : {x y : Option ℕ} {old new : Reading} {front : List ℕ} → TakesOff x old front y new → Takes (of_file x old) front (of_file y new)
off_within {x} {y} {old} {new} {front} h = record {
  taken = λ c l.
      let k = known x old.left c l in
      let w = h.takes.taken k.0 k.1 in
      (bytes_within y w.0, k.2 ∙ ap (bytes_within x) w.1 ∙ within_after x y front w.0 h.spends, ap (option_map (bytes_within y)) w.2);
  same = record { steps = h.takes.same.steps; budget = h.takes.same.budget; lends = h.takes.same.lends; faults = h.takes.same.faults; through = h.takes.same.through };
}

-- ---- looks at bytes

within_few : (x y : Option ℕ) (n : ℕ) (b : List ℕ) → Spends x n y → min n (length b) ≤ length (bytes_within x b)
within_few None y n b e = omega arith
within_few (Some m) None n b e = absurd (cc e)
within_few (Some m) (Some k) n b e =
    let h : m ≡ k + n = cc e in
    omega (arith, h, length-take m b)

-- looks at the bytes taken are looks at the file
pub taken_within : {x y : Option ℕ} {old new : Reading} {front : List ℕ} → TakesOff x old front y new → LooksAtMost (2 * length front) old new → old.looked ≤ new.looked → new.shown ≡ [] → LooksAtTaken 2 0 (of_file x old) (of_file y new)
taken_within {x} {y} {old} {new} {front} h most grows none = record {
  grows = grows;
  most = λ c l.
      let w = (off_within h).taken c l in
      (w.0, length front, w.2, omega (arith, ap length w.1, length-append front w.0), omega (arith, most));
  none_shown = none;
}

pub some_within : {x y : Option ℕ} {old new : Reading} {front : List ℕ} → TakesOff x old front y new → LooksAtMost (2 * length front) old new → LooksAtSome 2 old new → LooksAtSome 2 (of_file x old) (of_file y new)
some_within {x} {y} {old} {new} {front} h most k = record {
  grows = k.grows;
  most = λ c l.
      let w = (off_within h).taken c l in
      (w.0, length front, w.2, omega (arith, ap length w.1, length-append front w.0), omega (arith, most));
  none_shown = k.none_shown;
}

pub left_within : (x y : Option ℕ) (n : ℕ) {old new : Reading} (now : Reading) → Spends x n y → LooksAtMost (2 * n) old new → LooksAtLeft 2 0 old new → now.looked ≡ new.looked → LooksAtLeft 2 0 (of_file x old) now
left_within x y n {old} {new} now e most k same = record {
  grows = omega (arith, k.grows, same);
  most = λ c l.
      let w = known x old.left c l in
      omega (arith, k.most w.0 w.1, most, same, within_few x y n w.0 e, ap length w.2);
}

-- ---- refusals

pub within_le : (x : Option ℕ) (b : List ℕ) → length (bytes_within x b) ≤ length b
within_le None b = omega arith
within_le (Some n) b = omega (arith, length-take n b)

-- fewer than n bytes left means fewer than n of the file
pub short_within : {E : Type 0} (x : Option ℕ) (n : ℕ) (old new : Reading) (e : CarError E) → CarRefuses (IsShort n) old e new → CarRefuses (IsShort n) (of_file x old) e new
short_within x n old new (Read f) r = r
short_within x n old new OutOfMemory r = r
short_within x n old new e r = (r.0, λ c l. let w = known x old.left c l in let s = r.1 w.0 w.1 in (s.0, omega (arith, s.1, within_le x w.0, ap length w.2)))

-- the file has fewer bytes left
pub over_short : {E : Type 0} (x : Option ℕ) (n : ℕ) (old : Reading) (e : CarError E) → e ≡ Truncated → ExceedsExtent x n → CarRefuses (IsShort n) (of_file x old) e old
over_short {E} x n old e is h = subst (λ y. CarRefuses {E = E} (IsShort n) (of_file x old) y old) (sym is) (refl, λ c l. let w = known x old.left c l in (refl, few w.0 c w.2))
  where
    few : (b c : List ℕ) → c ≡ bytes_within x b → length c < n
    few b c same = omega (arith, h.2, length-take h.0 b, ap length (same ∙ ap (λ y. bytes_within y b) h.1))

pub looked_not : (x : Option ℕ) (old : Reading) → LooksAtLeft 2 0 (of_file x old) old
looked_not x old = record { grows = omega arith; most = λ c l. omega arith }

-- ---- a byte, and bytes

pub byte_off : {E : Type 0} (x y : Option ℕ) (old new : Reading) (r : Result ℕ (CarError E)) → Spends x 1 y → MatchResult r (λ byte. Takes old (byte ∷ []) new) (λ e. CarRefuses (IsShort 1) old e new)
    → MatchResult r (λ byte. TakesOff x old (byte ∷ []) y new) (λ e. CarRefuses (IsShort 1) (of_file x old) e new)
byte_off x y old new (Ok byte) s h = record { takes = h; spends = s }
byte_off x y old new (Err e) s h = short_within x 1 old new e h

pub byte_looked : {E : Type 0} (x y : Option ℕ) (old new : Reading) (r : Result ℕ (CarError E)) → Spends x 1 y → MatchResult r (λ byte. Takes old (byte ∷ []) new) (λ e. CarRefuses (IsShort 1) old e new) → LooksAtMost 2 old new → Looks 2 old r new → Looks 2 (of_file x old) r (of_file y new)
byte_looked x y old new (Ok byte) s h most k = taken_within (record { takes = h; spends = s }) most k.grows k.none_shown
byte_looked x y old new (Err e) s h most k = left_within x y 1 (of_file y new) s most k refl

pub bytes_off : {C E : Type 0} (bytes : C → List ℕ) (n : ℕ) (x y : Option ℕ) (old new : Reading) (r : Result C (CarError E)) → Spends x n y → MatchResult r (λ c. (length (bytes c) ≡ n) × Takes old (bytes c) new) (λ e. CarRefuses (IsShort n) old e new)
    → MatchResult r (λ c. (length (bytes c) ≡ n) × TakesOff x old (bytes c) y new) (λ e. CarRefuses (IsShort n) (of_file x old) e new)
bytes_off bytes n x y old new (Ok c) s h = (h.0, record { takes = h.1; spends = subst (λ k. Spends x k y) (sym h.0) s })
bytes_off bytes n x y old new (Err e) s h = short_within x n old new e h

pub bytes_looked : {C E : Type 0} (bytes : C → List ℕ) (n : ℕ) (x y : Option ℕ) (old new : Reading) (r : Result C (CarError E)) → Spends x n y → MatchResult r (λ c. (length (bytes c) ≡ n) × Takes old (bytes c) new) (λ e. CarRefuses (IsShort n) old e new) → LooksAtMost (2 * n) old new → LooksSome 2 old r new
    → LooksSome 2 (of_file x old) r (of_file y new)
bytes_looked bytes n x y old new (Ok c) s h most k = some_within (record { takes = h.1; spends = subst (λ m. Spends x m y) (sym h.0) s }) (omega (arith, most, h.0)) k
bytes_looked bytes n x y old new (Err e) s h most k = left_within x y n (of_file y new) s most k refl
