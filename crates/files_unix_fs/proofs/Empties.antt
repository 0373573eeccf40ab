-- A walk over sizes that has met no 0 so far.
use Rattle.std.proofs.Common.{◌≡◌, ◌≢◌, ℕ, zero, suc, List, [], ◌∷◌, true, false, refl, ap, ◌∙◌}
use Rattle.files_unix_fs.specs.UnixFs.{sizes_of}
use Rattle.files_unix_fs.specs.Files.{has_empty}

-- the rest has a size of 0 exactly if all have one
pub record IsSameRest (sizes rest : List ℕ) : Type 0 where
  pub same : has_empty (sizes_of sizes) ≡ has_empty (sizes_of rest)

pub none_passed : (sizes : List ℕ) → IsSameRest sizes sizes
none_passed sizes = record { same = refl }

some_first : (size : ℕ) (sizes : List ℕ) → size ≢ 0 → has_empty (size ∷ sizes) ≡ has_empty sizes
some_first zero sizes some = absurd (some refl)
some_first (suc n) sizes some = refl

pub one_passed : (sizes rest following : List ℕ) (size : ℕ) → IsSameRest sizes rest → sizes_of rest ≡ size ∷ sizes_of following → size ≢ 0 → IsSameRest sizes following
one_passed sizes rest following size h e some = record { same = h.same ∙ ap has_empty e ∙ some_first size (sizes_of following) some }

pub empty_found : (sizes rest following : List ℕ) (size : ℕ) → IsSameRest sizes rest → sizes_of rest ≡ size ∷ sizes_of following → size ≡ 0 → has_empty (sizes_of sizes) ≡ true
empty_found sizes rest following size h e none = h.same ∙ ap has_empty e ∙ ap (λ n. has_empty (n ∷ sizes_of following)) none

pub no_empty : (sizes rest : List ℕ) → IsSameRest sizes rest → sizes_of rest ≡ [] → has_empty (sizes_of sizes) ≡ false
no_empty sizes rest h e = h.same ∙ ap has_empty e
