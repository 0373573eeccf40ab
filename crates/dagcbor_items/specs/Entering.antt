-- Entering a list or a map: a step is spent, and its head is taken.
use Rattle.std.specs.Prelude.{◌≡◌, List, ℕ, ◌+◌, ◌-◌, ◌^◌, ◌<◌, ◌⊎◌, codes, Result, MatchResult}
use Rattle.dagcbor_core.specs.Head.{head}
use Rattle.dagcbor_heads.specs.Reading.{Reading, with_steps}
use Rattle.dagcbor_heads.specs.Fronts.{Takes}
use Rattle.dagcbor_heads.specs.Refusals.{RefusesPlainly}
use Rattle.dagcbor_core.specs.declared.error.DecodeError.{DecodeError}
use Rattle.dagcbor_items.specs.ReadCauses.{ItemCause}
use Rattle.dagcbor_items.specs.Untyped.{HasEnteredItem, StartsDefinite}

-- a step was spent, and the head of a list (4) or map (5) of `count` parts was taken
pub record Enters (major count : ℕ) (old new : Reading) : Type 0 where
  pub fits : count < 2 ^ 64
  pub step : 0 < old.steps
  pub is_out : new.steps < new.budget
  pub takes : Takes (with_steps (old.steps - 1) old) (head major count) new

-- the first byte is that of a list or a map, and `name` is the name of that kind
abbrev pub StartsWithParts : List ℕ → Reading → Type 0
StartsWithParts name r = (StartsDefinite r 4 × (name ≡ codes "array"))
    ⊎ (StartsDefinite r 5 × (name ≡ codes "map"))

-- A list or a map is entered as an item of unknown kind on which one step is already spent.
abbrev pub ReadsCount : {E : Type 0} → Reading → Result ℕ (DecodeError E) → Reading → Type 0
ReadsCount old result new = MatchResult result
    (λ count. (major : ℕ) × Enters major count old new)
    (λ e. RefusesPlainly (HasEnteredItem old) (ItemCause (old.steps + 1)) old e new)
