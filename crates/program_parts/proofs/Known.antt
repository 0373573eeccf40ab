-- What holds if the bytes of a source are known.
use Rattle.std.proofs.Common.{◌≡◌, ℕ, List, refl, Option, None, Some, IfSome}

pub if_known : {P : List ℕ → Type 0} (known : Option (List ℕ)) → ((b : List ℕ) → known ≡ Some b → P b) → IfSome known P
if_known None h = tt
if_known (Some b) h = h b refl

pub if_some : {P Q : List ℕ → Type 0} (known : Option (List ℕ)) → IfSome known P → ((b : List ℕ) → P b → Q b) → IfSome known Q
if_some None h f = tt
if_some (Some b) h f = f b h
