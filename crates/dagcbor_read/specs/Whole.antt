-- Reading a whole input as a value, or only its first value.
use Rattle.std.specs.Prelude.{◌≡◌, ◌⊎◌, ℕ, ◌≤◌, Bool, true, List, Option, Some, ⊤}
use Rattle.dagcbor_core.specs.declared.error.DecodeError.{DecodeError}
use Rattle.dagcbor_core.specs.declared.error.DecodeError.TheVariants.{Read, RequireBorrowed, OutOfMemory, Failed, TrailingData}
use Rattle.ipld_tree.specs.Tree.{Tree}
use Rattle.ipld_tree.specs.Spelling.{IsFront, IsSpelling}
use Rattle.dagcbor_items.specs.Shapes.{Shape}

-- the bytes are the spelling of a tree that has the view v, within the steps
abbrev pub IsWhole : {V : Type 0} → Shape Tree V → ℕ → List ℕ → V → Type 0
IsWhole shape steps b v = (t : Tree) × IsSpelling b t × (shape.view t ≡ Some v)
    × (shape.need t ≤ steps)

-- the bytes are not such a spelling
abbrev pub HoldsNoValue : {V : Type 0} → Shape Tree V → ℕ → List ℕ → Type 0
HoldsNoValue {V} shape steps b = (v : V) → ¬ IsWhole shape steps b v

-- the bytes begin with the spelling of a tree that has the view v, within the steps, and the rest
-- comes after it
abbrev pub IsFirst : {V : Type 0} → Shape Tree V → ℕ → List ℕ → V → List ℕ → Type 0
IsFirst shape steps b v rest = (t : Tree) × IsFront b t rest × (shape.view t ≡ Some v)
    × (shape.need t ≤ steps)

-- such a spelling was first, and exactly the rest is left
abbrev pub TakesFirst : {V : Type 0} → Shape Tree V → ℕ → List ℕ → V → Option (List ℕ) → Type 0
TakesFirst shape steps b v left = (rest : List ℕ) × IsFirst shape steps b v rest
    × (left ≡ Some rest)

-- the bytes do not begin with such a spelling
abbrev pub BeginsWithNoValue : {V : Type 0} → Shape Tree V → ℕ → List ℕ → Type 0
BeginsWithNoValue {V} shape steps b = (v : V) (rest : List ℕ) → ¬ IsFirst shape steps b v rest

-- a fault of the source, or out of memory; neither says anything about the bytes
abbrev pub IsReadExcuse : {E : Type 0} → DecodeError E → Type 0
IsReadExcuse (Read e) = ⊤
IsReadExcuse OutOfMemory = ⊤
IsReadExcuse _ = ⊥

-- if a value is first, and bytes come after it, these are the possible causes
abbrev pub IsForAfter : {V E : Type 0} → Shape Tree V → ℕ → List ℕ → DecodeError E → Type 0
IsForAfter {V} shape steps b e = (v : V) (rest : List ℕ) → IsFirst shape steps b v rest
    → IsReadExcuse e ⊎ (e ≡ TrailingData)

-- it is out of memory only if reading may take memory
abbrev pub LacksMemoryIf : {E : Type 0} → Bool → DecodeError E → Type 0
LacksMemoryIf may OutOfMemory = may ≡ true
LacksMemoryIf may _ = ⊤

-- the variants of a refusal
abbrev pub OfWhole : {E : Type 0} → DecodeError E → Type 0
OfWhole (RequireBorrowed name) = ⊥
OfWhole Failed = ⊥
OfWhole _ = ⊤
