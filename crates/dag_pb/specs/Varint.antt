-- Varints of protocol buffers (encoding, "Base 128 varints"): a number has forms of one to ten
-- bytes.
use Rattle.std.specs.Prelude.{◌≡◌, ℕ, ◌+◌, ◌*◌, ◌%◌, ◌^◌, ◌<◌, ◌≤◌, List, [], ◌∷◌, ◌++◌, length}

-- the number of these groups of seven bits, the lowest group first
abbrev pub number_of : List ℕ → ℕ
number_of [] = 0
number_of (group ∷ more) = group % 128 + 128 * number_of more

-- the high bit is set in each group but the last
abbrev pub AreGroups : List ℕ → Type 0
AreGroups [] = ⊥
AreGroups (group ∷ []) = group < 128
AreGroups (group ∷ next ∷ more) = (128 ≤ group) × AreGroups (next ∷ more)

-- the bytes are a form of the number, which is below 2 ^ 64; the last groups may be zero
pub record IsVarint (b : List ℕ) (n : ℕ) : Type 0 where
  pub groups : AreGroups b
  pub short : length b ≤ 10
  pub number : n ≡ number_of b
  pub fits : n < 2 ^ 64

-- the bytes are a form of the number, and then the rest
abbrev pub BeginsWithVarint : List ℕ → ℕ → List ℕ → Type 0
BeginsWithVarint b n rest = (form : List ℕ) × IsVarint form n × (b ≡ form ++ rest)

-- the bytes do not begin with a form of a number
abbrev pub BeginsNoVarint : List ℕ → Type 0
BeginsNoVarint b = (n : ℕ) (rest : List ℕ) → ¬ BeginsWithVarint b n rest

-- the bytes do not begin with a number and the bytes that it counts
abbrev pub BeginsNoCounted : List ℕ → Type 0
BeginsNoCounted b = (inner rest : List ℕ) → ¬ BeginsWithVarint b (length inner) (inner ++ rest)
