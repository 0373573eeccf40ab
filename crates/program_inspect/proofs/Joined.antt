-- Texts with commas between.
use Rattle.std.proofs.Common.{◌≡◌, ℕ, List, [], ◌∷◌, ◌++◌, map, flat_map, refl, sym, ap, ◌∙◌}
use Rattle.text_dag_json.specs.DagJson.{joined}

after_commas : {X : Type 0} (f : X → List ℕ) (xs : List X) → flat_map (λ u. 44 ∷ u) (map f xs) ≡ flat_map (λ x. 44 ∷ f x) xs
after_commas f [] = refl
after_commas f (x ∷ xs) = ap (λ l. (44 ∷ f x) ++ l) (after_commas f xs)

-- the first, and then the others
pub joined_more : {X : Type 0} (f : X → List ℕ) (xs : List X) (x : X) (others : List X) (out first more : List ℕ) → xs ≡ x ∷ others → first ≡ f x → more ≡ flat_map (λ y. 44 ∷ f y) others → out ≡ first ++ more → out ≡ joined (map f xs)
joined_more f xs x others out first more is h k e =
    e ∙ ap (λ l. l ++ more) h ∙ ap (λ l. f x ++ l) (k ∙ sym (after_commas f others)) ∙ sym (ap (λ l. joined (map f l)) is)
