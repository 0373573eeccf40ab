-- Heads of certain major types, and strings of bytes.
use Rattle.std.specs.Prelude.{false, ◌≡◌, ℕ, ◌^◌, ◌<◌, ◌≤◌, List, ◌++◌, length, Option, Some, Result, MatchResult, ⊤}
use Rattle.dagcbor_core.specs.Head.{head}
use Rattle.dagcbor_heads.specs.Reading.{Reading}
use Rattle.dagcbor_heads.specs.Fronts.{Takes}
use Rattle.dagcbor_heads.specs.Refusals.{RefusesPlainly, RefusesOrLacksMemoryUnlent}
use Rattle.dagcbor_core.specs.declared.error.DecodeError.{DecodeError}
use Rattle.dagcbor_core.specs.declared.error.DecodeError.TheVariants.{OutOfMemory}
use Rattle.dagcbor_items.specs.ReadCauses.{MajorCause, StringCause}

-- a head of a major type from low to high is at the front
pub record HasMajor (low high : ℕ) (r : Reading) : Type 0 where
  pub major : ℕ
  pub argument : ℕ
  pub rest : List ℕ
  pub lowest : low ≤ major
  pub highest : major ≤ high
  pub argument_fits : argument < 2 ^ 64
  pub left : r.left ≡ Some (head major argument ++ rest)

-- such a head was at the front, and was taken
pub record TakesMajor (low high : ℕ) (old : Reading) (major argument : ℕ) (new : Reading) : Type 0 where
  pub lowest : low ≤ major
  pub highest : major ≤ high
  pub argument_fits : argument < 2 ^ 64
  pub takes : Takes old (head major argument) new

-- A head is read if and only if one of these major types is there.
abbrev pub ReadsMajor : {E : Type 0} → List ℕ → (low high : ℕ) → Reading
    → Result (ℕ × ℕ) (DecodeError E) → Reading → Type 0
ReadsMajor name low high old result new = MatchResult result
    (λ h. TakesMajor low high old h.0 h.1 new)
    (λ e. RefusesPlainly (HasMajor low high old) (MajorCause name low high) old e new)

-- ---- strings of bytes

-- the bytes begin with the head of a string of the major type that is not empty
abbrev pub BeginsSomeString : ℕ → List ℕ → Type 0
BeginsSomeString kind b = (n : ℕ) × (rest : List ℕ) × (0 < n) × (n < 2 ^ 64)
    × (b ≡ head kind n ++ rest)

-- a call is out of memory only if the bytes left, if known, begin with such a string
abbrev pub LacksForString : {E : Type 0} → ℕ → Option (List ℕ) → DecodeError E → Type 0
LacksForString kind left OutOfMemory = (b : List ℕ) → left ≡ Some b → BeginsSomeString kind b
LacksForString kind left _ = ⊤

-- memory ran out for a copy of the text with which the bytes left begin; nothing was taken or
-- looked at
pub record LacksToCopy (old new : Reading) : Type 0 where
  pub same : new ≡ old
  pub unlent : old.lends ≡ false
  pub some : (b : List ℕ) → old.left ≡ Some b → BeginsSomeString 3 b

-- a string of the major type is at the front
pub record HasString (kind : ℕ) (r : Reading) : Type 0 where
  pub payload : List ℕ
  pub rest : List ℕ
  pub fits : length payload < 2 ^ 64
  pub left : r.left ≡ Some (head kind (length payload) ++ (payload ++ rest))

-- this string was at the front, and was taken
pub record TakesString (kind : ℕ) (old : Reading) (payload : List ℕ) (new : Reading) : Type 0 where
  pub fits : length payload < 2 ^ 64
  pub takes : Takes old (head kind (length payload) ++ payload) new

-- A string is read if and only if one of the major type is there. If the input lends, memory does
-- not run out.
abbrev pub ReadsString : {T E : Type 0} → (T → List ℕ) → List ℕ → (kind : ℕ) → Reading
    → Result T (DecodeError E) → Reading → Type 0
ReadsString meaning name kind old result new = MatchResult result
    (λ s. TakesString kind old (meaning s) new)
    (λ e. RefusesOrLacksMemoryUnlent (HasString kind old) (StringCause name kind) old e new)
