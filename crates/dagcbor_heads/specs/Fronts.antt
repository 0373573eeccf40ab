-- What is at the front of the bytes that a reader has left, and what a call takes from there.
use Rattle.std.specs.Prelude.{◌≡◌, ℕ, ◌/◌, ◌^◌, ◌+◌, ◌<◌, ◌≤◌, List, [], ◌∷◌, ◌++◌, length, Some}
use Rattle.dagcbor_core.specs.Head.{head}
use Rattle.dagcbor_heads.specs.Reading.{Reading, Keeps, Stays}

-- a byte is at the front
pub record HasByte (r : Reading) : Type 0 where
  pub byte : ℕ
  pub rest : List ℕ
  pub left : r.left ≡ Some (byte ∷ rest)

-- a head is at the front
pub record HasHead (r : Reading) : Type 0 where
  pub major : ℕ
  pub argument : ℕ
  pub rest : List ℕ
  pub major_fits : major < 8
  pub argument_fits : argument < 2 ^ 64
  pub left : r.left ≡ Some (head major argument ++ rest)

-- n bytes are at the front
pub record HasPayload (n : ℕ) (r : Reading) : Type 0 where
  pub payload : List ℕ
  pub rest : List ℕ
  pub long : length payload ≡ n
  pub left : r.left ≡ Some (payload ++ rest)

-- the bytes left, if known, begin with this byte
abbrev pub StartsWith : Reading → ℕ → Type 0
StartsWith r byte = (b : List ℕ) → r.left ≡ Some b → (more : List ℕ) × (b ≡ byte ∷ more)

-- this byte is at the front, and was not taken
pub record ShowsByte (old : Reading) (byte : ℕ) (new : Reading) : Type 0 where
  pub starts : StartsWith old byte
  pub still : StartsWith new byte
  pub kept : Keeps old new
  pub same : Stays old new

-- no byte was left
pub record FindsEnd (old new : Reading) : Type 0 where
  pub none_left : (b : List ℕ) → old.left ≡ Some b → b ≡ []
  pub kept : Keeps old new
  pub same : Stays old new

-- these bytes were at the front, and were taken
pub record Takes (old : Reading) (bytes : List ℕ) (new : Reading) : Type 0 where
  pub taken : (b : List ℕ) → old.left ≡ Some b → (rest : List ℕ) × (b ≡ bytes ++ rest)
      × (new.left ≡ Some rest)
  pub same : Stays old new

-- n bytes at the front were taken; each counts as one look, and no byte after them is shown
pub record TakesSome (n : ℕ) (old new : Reading) : Type 0 where
  pub bytes : List ℕ
  pub counted : length bytes ≡ n
  pub takes : Takes old bytes new
  pub looked : new.looked ≡ old.looked + n
  pub none_shown : new.shown ≡ []

-- this head was at the front, with this first byte, and was taken
pub record TakesHead (old : Reading) (major argument first : ℕ) (new : Reading) : Type 0 where
  pub major_fits : major < 8
  pub argument_fits : argument < 2 ^ 64
  pub major_of_first : first / 32 ≡ major
  pub starts : StartsWith old first
  pub takes : Takes old (head major argument) new

-- at most `want` bytes were taken and appended to those gathered before; no byte was taken only at
-- the end
pub record Gathers (old : Reading) (before : List ℕ) (want count : ℕ) (after : List ℕ) (new : Reading) : Type 0 where
  pub bytes : List ℕ
  pub counted : length bytes ≡ count
  pub takes : Takes old bytes new
  pub following : after ≡ before ++ bytes
  pub most : count ≤ want
  pub none_left : count ≡ 0 → 0 < want → (b : List ℕ) → old.left ≡ Some b → b ≡ []
