-- The verdicts so far, and one more.
use Rattle.std.proofs.Common.{◌≡◌, List, [], ◌∷◌, ◌++◌, refl, ap}
use Rattle.ipld_links.specs.Verdicts.{IsVerdict}
use Rattle.files_car.specs.Told.{Told, sections_of, AreTold}

pub sections_push : (told : List Told) (p : Told) → sections_of (told ++ p ∷ []) ≡ sections_of told ++ p.0 ∷ []
sections_push [] p = refl
sections_push (x ∷ told) p = ap (λ more. x.0 ∷ more) (sections_push told p)

pub told_push : (told : List Told) (p : Told) → AreTold told → IsVerdict p.0 p.1 → AreTold (told ++ p ∷ [])
told_push [] p h v = (v, tt)
told_push (x ∷ told) p h v = (h.0, told_push told p h.1 v)
