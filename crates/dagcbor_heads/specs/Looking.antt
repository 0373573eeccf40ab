-- How many bytes a call looked at. The count never falls.
use Rattle.std.specs.Prelude.{◌≡◌, ℕ, ◌+◌, ◌*◌, ◌≤◌, List, [], length, Some, Result, MatchResult}
use Rattle.dagcbor_heads.specs.Reading.{Reading}

-- at most n bytes were looked at, whether or not the bytes left are known
abbrev pub LooksAtMost : ℕ → Reading → Reading → Type 0
LooksAtMost n old new = new.looked ≤ old.looked + n

-- at most one byte was looked at, and no byte at the end
pub record LooksOnce (old new : Reading) : Type 0 where
  pub grows : old.looked ≤ new.looked
  pub one : LooksAtMost 1 old new
  pub left : (b : List ℕ) → old.left ≡ Some b → new.looked ≤ old.looked + length b

-- n bytes were taken. At most `times` times n were looked at, including `before` looks made before
-- the call. No byte is shown now: no byte after those taken was asked for, whether or not the bytes
-- left are known.
pub record LooksAtTaken (times before : ℕ) (old new : Reading) : Type 0 where
  pub grows : old.looked ≤ new.looked
  pub most : (b : List ℕ) → old.left ≡ Some b
      → (rest : List ℕ) × (n : ℕ) × (new.left ≡ Some rest) × (length b ≡ n + length rest)
      × (before + new.looked ≤ old.looked + times * n)
  pub none_shown : new.shown ≡ []

-- n bytes were taken, where n may be 0, and at most `times` times n were looked at. If no byte was
-- shown before, no byte is shown now.
pub record LooksAtSome (times : ℕ) (old new : Reading) : Type 0 where
  pub grows : old.looked ≤ new.looked
  pub most : (b : List ℕ) → old.left ≡ Some b
      → (rest : List ℕ) × (n : ℕ) × (new.left ≡ Some rest) × (length b ≡ n + length rest)
      × (new.looked ≤ old.looked + times * n)
  pub none_shown : old.shown ≡ [] → new.shown ≡ []

-- at most `times` times as many bytes were looked at as were left, including `before` looks made
-- before the call
pub record LooksAtLeft (times before : ℕ) (old new : Reading) : Type 0 where
  pub grows : old.looked ≤ new.looked
  pub most : (b : List ℕ) → old.left ≡ Some b → before + new.looked ≤ old.looked + times * length b

-- A call that returns `Ok` looks as in `LooksAtTaken`, one that refuses as in `LooksAtLeft`.
abbrev pub LooksAfter : {T E : Type 0} → (times before : ℕ) → Reading → Result T E → Reading
    → Type 0
LooksAfter times before old result new = MatchResult result (λ _. LooksAtTaken times before old new) (λ _. LooksAtLeft times before old new)

-- A call that returns `Ok` looks at most `times` times at each byte that it takes, a refused one at
-- each byte that was left.
abbrev pub Looks : {T E : Type 0} → (times : ℕ) → Reading → Result T E → Reading → Type 0
Looks times = LooksAfter times 0

-- A call that returns `Ok`, and may have taken no byte, looks at most `times` times at each byte
-- that it takes, a refused one at each byte that was left.
abbrev pub LooksSome : {T E : Type 0} → (times : ℕ) → Reading → Result T E → Reading → Type 0
LooksSome times old result new = MatchResult result (λ _. LooksAtSome times old new) (λ _. LooksAtLeft times 0 old new)
