-- What makes symbols an alphabet, as computable tests.
use Rattle.std.specs.Prelude.{◌≡◌, ℕ, zero, suc, ◌<◌, ◌≤◌, ◌^◌, ◌==◌, Bool, true, not, ◌&&◌, List, length, slice_index, IsTrue}
use Rattle.std.specs.List.{AllByRecursion}

-- p holds of each number below n
abbrev pub all_below : (ℕ → Bool) → ℕ → Bool
all_below p zero = true
all_below p (suc n) = p n && all_below p n

-- the symbol at index i differs from those before it
abbrev pub is_new : List ℕ → ℕ → Bool
is_new symbols i = all_below (λ j. not (slice_index symbols j == slice_index symbols i)) i

-- there are n symbols, no two the same
abbrev pub is_alphabet : ℕ → List ℕ → Bool
is_alphabet n symbols = (length symbols == n) && all_below (is_new symbols) n

-- the alphabet of a base of w bits
pub record IsBase (w : ℕ) (symbols : List ℕ) : Type 0 where
  pub some : 0 < w
  pub few : w ≤ 5
  pub alphabet : IsTrue (is_alphabet (2 ^ w) symbols)

-- bytes are numbers below 256
abbrev pub AreBytes : List ℕ → Type 0
AreBytes = AllByRecursion (λ b. b < 256)

-- the symbol is not in the alphabet
abbrev pub IsNoSymbol : List ℕ → ℕ → Type 0
IsNoSymbol symbols s = (i : ℕ) → i < length symbols → ¬ (slice_index symbols i ≡ s)
