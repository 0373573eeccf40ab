-- What reading a value of a type returns and refuses.
use Rattle.std.specs.Prelude.{◌≡◌, ℕ, ◌≤◌, Bool, true, List, Some, is_some, Result, MatchResult, ⊤}
use Rattle.dagcbor_heads.specs.Reading.{Reading, Stays}
use Rattle.dagcbor_heads.specs.Refusals.{Refuses}
use Rattle.dagcbor_core.specs.declared.error.DecodeError.{DecodeError}
use Rattle.dagcbor_core.specs.declared.error.DecodeError.TheVariants.{DepthOverflow}
use Rattle.ipld_tree.specs.Tree.{Tree}
use Rattle.ipld_tree.specs.Spelling.{IsFront}
use Rattle.dagcbor_items.specs.Shapes.{Shape}

-- a tree that the type accepts is at the front, and its need is within the steps left
pub record HasFront {V : Type 0} (shape : Shape Tree V) (r : Reading) : Type 0 where
  pub bytes : List ℕ
  pub tree : Tree
  pub rest : List ℕ
  pub left : r.left ≡ Some bytes
  pub front : IsFront bytes tree rest
  pub accepted : is_some (shape.view tree) ≡ true
  pub within : shape.need tree ≤ r.steps

-- a tree that shows v was at the front, its need within the steps left, and was taken
pub record TakesFront {V : Type 0} (shape : Shape Tree V) (old : Reading) (v : V) (new : Reading) : Type 0 where
  pub taken : (b : List ℕ) → old.left ≡ Some b
      → (t : Tree) × (rest : List ℕ) × IsFront b t rest × (shape.view t ≡ Some v)
      × (shape.need t ≤ old.steps) × (new.left ≡ Some rest)
  pub same : Stays old new

-- A value is read if and only if a tree that the type accepts is at the front, within the steps
-- left. A refusal is `OutOfMemory` only if `lacks`, `RequireBorrowed` only if `borrows`, and
-- otherwise a fault or a cause in the bytes.
abbrev pub Reads : {T V E : Type 0} → (T → V) → Shape Tree V → Type 0 → Type 0
    → (DecodeError E → List ℕ → Type 0) → Reading → Result T (DecodeError E) → Reading → Type 0
Reads meaning shape lacks borrows stands old result new = MatchResult result
    (λ v. TakesFront shape old (meaning v) new)
    (λ e. Refuses (record {
      could = HasFront shape old;
      lacks = lacks;
      borrows = borrows;
      stands = stands;
    }) old e new)

-- reading with this reader may take memory
abbrev pub MayLack : (Bool → Bool) → Reading → Type 0
MayLack memory r = memory r.lends ≡ true

-- if a call that spends a step at once is refused for the depth, no step was left
abbrev pub NoStepIfDeep : {E : Type 0} → Reading → DecodeError E → Type 0
NoStepIfDeep old (DepthOverflow name) = old.steps ≡ 0
NoStepIfDeep old _ = ⊤

-- any cause in the bytes
abbrev pub Anything : {E : Type 0} → DecodeError E → List ℕ → Type 0
Anything e b = ⊤

-- A typed read is `OutOfMemory` only if its shape may take memory, `RequireBorrowed` only if it
-- wants a loan, and refused for a cause only if what it could read is not there.
abbrev pub RefusesRead : {Data V E : Type 0} → (could : Type 0) → Shape Data V → Reading
    → DecodeError E → Reading → Type 0
RefusesRead could shape old = Refuses (record {
  could = could;
  lacks = MayLack shape.memory old;
  borrows = shape.wants_loan ≡ true;
  stands = Anything;
}) old
