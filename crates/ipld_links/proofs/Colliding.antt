-- Byte strings of one SHA-256.
use Rattle.std.proofs.Common.{◌≡◌, ◌≢◌, ◌⊎◌, inl, inr, ℕ, List, Bool, true, false, refl}
use Rattle.std.proofs.lemmas.Slice.Eq.{bytes_eq-Decides}
use Rattle.std.specs.Str.{bytes_eq}
use Rattle.sha2.specs.Sha256.{sha256}
use Rattle.ipld_links.specs.Collisions.{Collides}

pub same_or_not : (x y : List ℕ) → (x ≡ y) ⊎ (x ≢ y)
same_or_not x y = by (bytes_eq x y) refl
  where
    by : (t : Bool) → bytes_eq x y ≡ t → (x ≡ y) ⊎ (x ≢ y)
    by true e = inl ((bytes_eq-Decides x y).0 e)
    by false e = inr (λ is. (let yes = (bytes_eq-Decides x y).1 is in cc))

pub of_one_hash : (x y : List ℕ) → sha256 x ≡ sha256 y → (x ≡ y) ⊎ Collides
of_one_hash x y e = elim (same_or_not x y) [ inl is ↦ inl is | inr other ↦ inr (x, y, other, e) ]
