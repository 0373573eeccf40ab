use Rattle.std.proofs.Common.{◌≡◌, ◌↔◌, ◌∙◌, sym, Bool, IsTrue, List, ℕ, Option, Some, None}
use Rattle.dagcbor_decode.specs.Decode.{follows}
use Rattle.dagcbor_items.specs.Places.{Follows}
use Rattle.dagcbor_items.proofs.order.follows.Goals as goal

told : (b : Bool) (previous : Option (List ℕ)) (key : List ℕ) → b ≡ follows previous key → IsTrue b ↔ Follows previous key
told b None key e = (λ _. tt, λ _. e)
told b (Some before) key e = (λ t. sym e ∙ t, λ t. e ∙ t)

pub returns : goal.returns
returns c = told _ _ _ c.follows.ensures
