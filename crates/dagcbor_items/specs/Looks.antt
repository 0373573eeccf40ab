-- How many bytes an untyped read looks at.
use Rattle.std.specs.Prelude.{◌≡◌, ℕ, ◌+◌, ◌*◌, ◌≤◌, List, [], length, Some, Result, MatchResult}
use Rattle.dagcbor_heads.specs.Reading.{Reading}
use Rattle.dagcbor_heads.specs.Looking.{LooksAtLeft}
use Rattle.ipld_tree.specs.Tree.{Tree}
use Rattle.ipld_tree.specs.Spelling.{IsFront, spelling}

-- a tree was at the front and was taken, with at most three looks for each byte of its spelling; no
-- byte is shown now, because no byte after it was asked for
pub record LooksAtItem (old new : Reading) : Type 0 where
  pub grows : old.looked ≤ new.looked
  pub most : (b : List ℕ) → old.left ≡ Some b
      → (t : Tree) × (rest : List ℕ) × IsFront b t rest × (new.left ≡ Some rest)
      × (new.looked ≤ old.looked + 3 * length (spelling t))
  pub none_shown : new.shown ≡ []

-- An item is read with at most three looks for each byte of its spelling, and refused with at most
-- three for each byte that was left.
abbrev pub LooksAtAny : {T E : Type 0} → Reading → Result T E → Reading → Type 0
LooksAtAny old result new = MatchResult result (λ _. LooksAtItem old new) (λ _. LooksAtLeft 3 0 old new)
