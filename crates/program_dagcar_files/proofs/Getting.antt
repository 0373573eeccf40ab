-- What `get` writes past an index.
use Rattle.std.proofs.Common.{◌≡◌, ℕ, List, subst, Option, None, Some, IfSome, drop, Result, Ok, Err, IfOk}
use Rattle.std.specs.Option.{option_map}

-- what is known from two facts
pub both_known : {P Q R : List ℕ → Type 0} (known : Option (List ℕ)) → IfSome known P → IfSome known Q → ((b : List ℕ) → P b → Q b → R b) → IfSome known R
both_known None h k f = tt
both_known (Some b) h k f = f b h k

-- all bytes from the start
pub from_first : (known left : Option (List ℕ)) (P : List ℕ → Type 0) → left ≡ option_map (drop 0) known → IfSome left P → IfSome known P
from_first None left P is h = tt
from_first (Some b) left P is h = subst (λ x. IfSome x P) is h

-- what is known of these bytes
pub at_known : (P : List ℕ → Type 0) (known : Option (List ℕ)) (b : List ℕ) → known ≡ Some b → IfSome known P → P b
at_known P known b is h = subst (λ o. IfSome o P) is h

pub ok_map : {A E : Type 0} {P Q : A → Type 0} (r : Result A E) → IfOk r P → ((a : A) → P a → Q a) → IfOk r Q
ok_map (Ok a) h f = f a h
ok_map (Err e) h f = tt
