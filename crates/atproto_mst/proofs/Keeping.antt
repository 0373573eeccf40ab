-- Which nodes are handed on, if some are stored already.
use Rattle.std.proofs.Common.{◌≡◌, inl, inr, Bool, true, false, List, [], ◌∷◌, ◌++◌, None, refl, sym, ap, ◌∙◌, subst, append_assoc, append-nil}
use Rattle.std.specs.Prelude.{is_some, if◌then◌else◌}
use Rattle.files_car.specs.Car.{Section}
use Rattle.ipld_links.specs.Reaching.{Stored}
use Rattle.ipld_links.specs.Sets.{Among}
use Rattle.atproto_mst.specs.declared.error.MstError.{MstError}
use Rattle.atproto_mst.specs.Sinks.{HandsOver, not_stored}

one_kept : (stored : Stored) (s : Section) (ss : List Section) → (b : Bool) → is_some (stored s.0) ≡ b → not_stored stored (s ∷ ss) ≡ (if b then not_stored stored ss else s ∷ not_stored stored ss)
one_kept stored s ss b e = ap (λ x. if x then not_stored stored ss else s ∷ not_stored stored ss) e

kept_more : (stored : Stored) (before : List Section) (s : Section) (b : Bool) → is_some (stored s.0) ≡ b
    → not_stored stored (before ++ (s ∷ [])) ≡ not_stored stored before ++ (if b then [] else s ∷ [])
kept_more stored [] s b e = one_kept stored s [] b e
kept_more stored (x ∷ before) s b e = by (kept_more stored before s b e) (is_some (stored x.0)) refl
  where
    by : not_stored stored (before ++ (s ∷ [])) ≡ not_stored stored before ++ (if b then [] else s ∷ []) → (y : Bool) → is_some (stored x.0) ≡ y
        → not_stored stored (x ∷ (before ++ (s ∷ []))) ≡ not_stored stored (x ∷ before) ++ (if b then [] else s ∷ [])
    by more true y = one_kept stored x (before ++ (s ∷ [])) true y ∙ more ∙ ap (λ l. l ++ (if b then [] else s ∷ [])) (sym (one_kept stored x before true y))
    by more false y = one_kept stored x (before ++ (s ∷ [])) false y ∙ ap (λ l. x ∷ l) more ∙ ap (λ l. l ++ (if b then [] else s ∷ [])) (sym (one_kept stored x before false y))

module _ {S W : Type 0} (H : S → W → List Section → Type 0) (R : W → Section → MstError → Type 0) (stored : Stored) (w : W) (front before : List Section) (s : Section) where
  pub passed_over : (x : S) → is_some (stored s.0) ≡ true → H x w (front ++ not_stored stored before) → H x w (front ++ not_stored stored (before ++ (s ∷ [])))
  passed_over x e h = subst (λ l. H x w (front ++ l)) (sym (kept_more stored before s true e ∙ append-nil (not_stored stored before))) h

  pub handed_on : (old new : S) → is_some (stored s.0) ≡ false → HandsOver H old (s ∷ []) new → H old w (front ++ not_stored stored before) → H new w (front ++ not_stored stored (before ++ (s ∷ [])))
  handed_on old new e t h =
      subst (λ l. H new w l) (append_assoc front (not_stored stored before) (s ∷ []) ∙ ap (λ l. front ++ l) (sym (kept_more stored before s false e)))
      (t w (front ++ not_stored stored before) h)

-- among the nodes that are not stored
pub among_kept : (stored : Stored) (x : Section) (ss : List Section) → stored x.0 ≡ None → Among x ss → Among x (not_stored stored ss)
among_kept stored x [] none m = absurd m
among_kept stored x (s ∷ ss) none (inl is) =
    subst (Among x) (sym (one_kept stored s ss false (ap (λ y. is_some (stored y.0)) (sym is) ∙ ap is_some none))) (inl is)
among_kept stored x (s ∷ ss) none (inr m) = by (among_kept stored x ss none m) (is_some (stored s.0)) refl
  where
    by : Among x (not_stored stored ss) → (b : Bool) → is_some (stored s.0) ≡ b → Among x (not_stored stored (s ∷ ss))
    by more true e = subst (Among x) (sym (one_kept stored s ss true e)) more
    by more false e = subst (Among x) (sym (one_kept stored s ss false e)) (inr more)

-- the nodes of two lists that are not stored are those of the first, and then those of the second
pub kept_of_both : (stored : Stored) (a b : List Section) → not_stored stored (a ++ b) ≡ not_stored stored a ++ not_stored stored b
kept_of_both stored [] b = refl
kept_of_both stored (x ∷ a) b = by (kept_of_both stored a b) (is_some (stored x.0)) refl
  where
    by : not_stored stored (a ++ b) ≡ not_stored stored a ++ not_stored stored b → (y : Bool) → is_some (stored x.0) ≡ y
        → not_stored stored (x ∷ (a ++ b)) ≡ not_stored stored (x ∷ a) ++ not_stored stored b
    by more true y = one_kept stored x (a ++ b) true y ∙ more ∙ ap (λ l. l ++ not_stored stored b) (sym (one_kept stored x a true y))
    by more false y = one_kept stored x (a ++ b) false y ∙ ap (λ l. x ∷ l) more ∙ ap (λ l. l ++ not_stored stored b) (sym (one_kept stored x a false y))
