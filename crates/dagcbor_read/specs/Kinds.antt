-- What the first byte of an item tells about it.
use Rattle.std.specs.Prelude.{◌≡◌, ℕ, List, Some, Result, MatchResult, codes, ⊤}
use Rattle.dagcbor_heads.specs.Reading.{Reading, Keeps, Stays}
use Rattle.dagcbor_heads.specs.Fronts.{HasByte}
use Rattle.dagcbor_core.specs.Causes.{ByteCause, IsEndNamed}
use Rattle.dagcbor_heads.specs.Refusals.{RefusesPlainly}
use Rattle.dagcbor_core.specs.declared.error.DecodeError.{DecodeError}
use Rattle.dagcbor_core.specs.declared.error.DecodeError.TheVariants.{Failed}
use Rattle.dagcbor_decode.specs.TreeKinds.{IsKindOfFront}
use Rattle.dagcbor_decode.specs.declared.kind.Kind.{Kind}

-- the item at the front is of this kind, and stays there
pub record ShowsKind (old : Reading) (kind : Kind) (new : Reading) : Type 0 where
  pub is : (b : List ℕ) → old.left ≡ Some b → IsKindOfFront b kind
  pub kept : Keeps old new
  pub same : Stays old new

-- The kind of an item is returned exactly if a byte is left, and nothing is taken.
abbrev pub PeeksKind : {E : Type 0} → Reading → Result Kind (DecodeError E) → Reading → Type 0
PeeksKind old result new = MatchResult result
    (λ kind. ShowsKind old kind new)
    (λ e. RefusesPlainly (HasByte old) ByteCause old e new)

-- the variants of a refusal; missing bytes are reported under this name
abbrev pub OfPeek : {E : Type 0} → DecodeError E → Type 0
OfPeek Failed = ⊤
OfPeek e = IsEndNamed (codes "item") e
