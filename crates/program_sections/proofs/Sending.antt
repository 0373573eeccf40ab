-- How a file is written, piece by piece.
use Rattle.std.proofs.Common.{◌≡◌, inl, inr, List, ℕ, [], ◌++◌, append-nil, append_assoc, Bool, refl, sym, ap, ◌∙◌, subst, ◌∷◌, IsErrAnd, Option, Result, Ok, Err}
use Rattle.std.specs.Io.KnownBytes.{Appends}
use Rattle.std.proofs.KnownBytes.{Appends-nil, Appends-trans}
use Rattle.program_shared.specs.declared.fault.ToolError.{ToolError}
use Rattle.program_shared.specs.declared.fault.ToolError.TheVariants.{Input, Output, OutOfMemory}
use Rattle.program_parts.specs.Lines.{BreaksLine, SaysLines, SaysBoth}
use Rattle.program_parts.proofs.Saying.{both_said}
use Rattle.program_sections.specs.Sending.{SaysSent}

module _ (IsFirst : List ℕ → Type 0) (IsSaid : Bool → List ℕ → List ℕ → Type 0) (old heard new : Option (List ℕ)) where
  -- the whole output was written, and then the error lines
  pub told_so : (said text : List ℕ) (well : Bool) (r : Result Bool ToolError) (after : Option (List ℕ)) → Appends old new said → IsFirst said → IsSaid well said text → SaysLines text well heard r after → SaysSent IsFirst IsSaid old heard r new after
  told_so said text well (Ok answer) after out first is h = (said, text, subst (λ w. IsSaid w said text) (sym h.0) is, out, h.1)
  told_so said text well (Err Output) after out first is h = inr (well, said, h.0, h.1, subst (IsSaid well said) h.2 is, refl, out, h.3)
  told_so said text well (Err OutOfMemory) after out first is same = inl (said, [], subst IsFirst (sym (append-nil said)) first, inl refl, out, subst (λ x. Appends heard x []) (sym same) (Appends-nil heard))
  told_so said text well (Err Input) after out first is h = absurd h

  -- the run broke off after what was written
  pub stopped_so : (said : List ℕ) (r : Result Bool ToolError) (e : ToolError) (after : Option (List ℕ)) → Appends old new said → IsFirst said → r ≡ Err e → after ≡ heard → SaysSent IsFirst IsSaid old heard r new after
  stopped_so said r e after out first is same =
      let at : SaysSent IsFirst IsSaid old heard (Err e) new heard = inl (said, [], subst IsFirst (sym (append-nil said)) first, inl refl, out, Appends-nil heard) in
      subst (λ x. SaysSent IsFirst IsSaid old heard x new after) (sym is) (subst (λ x. SaysSent IsFirst IsSaid old heard (Err e) new x) (sym same) at)

  -- or within the next piece
  pub broke_so : (mid : Option (List ℕ)) (said text : List ℕ) (r : Result Bool ToolError) (e : ToolError) (after : Option (List ℕ)) → Appends old mid said → IsFirst said → IsFirst (said ++ text) → BreaksLine (λ out. out ≡ text) mid new e → r ≡ Err e → after ≡ heard → SaysSent IsFirst IsSaid old heard r new after
  broke_so mid said text r e after out first more h is same =
      subst (λ x. SaysSent IsFirst IsSaid old heard x new after) (sym is) (subst (λ x. SaysSent IsFirst IsSaid old heard (Err e) new x) (sym same) (by h))
    where
      by : BreaksLine (λ out. out ≡ text) mid new e → SaysSent IsFirst IsSaid old heard (Err e) new heard
      by (inl none) = inl (said ++ [], [], subst IsFirst (sym (append-nil (said ++ []) ∙ append-nil said)) first, inl refl, Appends-trans old mid new said [] out none, Appends-nil heard)
      by (inr k) = inl (said ++ k.0, k.1, subst IsFirst (ap (λ l. said ++ l) (sym k.2) ∙ sym (append_assoc said k.0 k.1)) more, inr k.3, Appends-trans old mid new said k.0 out k.4, Appends-nil heard)

front_nil : (front back : List ℕ) → front ++ back ≡ [] → front ≡ []
front_nil [] back e = refl
front_nil (x ∷ front) back e = absurd (cc e)

-- no output, and an error line
pub both_sent : (IsFirst : List ℕ → Type 0) (IsSaid : Bool → List ℕ → List ℕ → Type 0) (lines text : List ℕ) (well : Bool) (old heard : Option (List ℕ)) (r : Result Bool ToolError) (new after : Option (List ℕ)) → lines ≡ [] → IsFirst [] → IsSaid well [] text → SaysBoth (λ w said told. (w ≡ well) × (said ≡ lines) × (told ≡ text)) old heard r new after → SaysSent IsFirst IsSaid old heard r new after
both_sent IsFirst IsSaid lines text well old heard r new after none first is h =
    by r (both_said (λ w said told. IsSaid w said told × (said ≡ [])) lines text well old heard r new after (subst (λ l. IsSaid well l text) (sym none) is, none) h)
  where
    by : (x : Result Bool ToolError) → SaysBoth (λ w said told. IsSaid w said told × (said ≡ [])) old heard x new after → SaysSent IsFirst IsSaid old heard x new after
    by (Ok w) k = (k.0, k.1, k.2.0, k.3, k.4)
    by (Err e) (inl k) = inl ([], [], first, inl refl, k.0, k.1)
    by (Err e) (inr k) = inr (k.0, k.1, k.3, k.4, subst (λ s. IsSaid k.0 s (k.3 ++ k.4)) (k.5.1 ∙ sym (front_nil k.1 k.2 k.5.1)) k.5.0, k.6, k.7, k.8)

-- what holds of one answer holds of the other
pub sent_as : (P Q : List ℕ → Type 0) (R S : Bool → List ℕ → List ℕ → Type 0) (old heard : Option (List ℕ)) (r : Result Bool ToolError) (new after : Option (List ℕ)) → ((out : List ℕ) → P out → Q out) → ((well : Bool) (said told : List ℕ) → R well said told → S well said told) → SaysSent P R old heard r new after → SaysSent Q S old heard r new after
sent_as P Q R S old heard (Ok w) new after f g k = (k.0, k.1, g w k.0 k.1 k.2, k.3, k.4)
sent_as P Q R S old heard (Err e) new after f g (inl k) = inl (k.0, k.1, f (k.0 ++ k.1) k.2, k.3, k.4, k.5)
sent_as P Q R S old heard (Err e) new after f g (inr k) = inr (k.0, k.1, k.2, k.3, g k.0 k.1 (k.2 ++ k.3) k.4, k.5, k.6, k.7)

-- nothing was written
pub none_said : (IsFirst : List ℕ → Type 0) (IsSaid : Bool → List ℕ → List ℕ → Type 0) (old heard : Option (List ℕ)) (r : Result Bool ToolError) (e : ToolError) → IsFirst [] → IsErrAnd r (λ x. x ≡ e) → SaysSent IsFirst IsSaid old heard r old heard
none_said IsFirst IsSaid old heard (Ok w) e first is = absurd is
none_said IsFirst IsSaid old heard (Err x) e first is = inl ([], [], first, inl refl, Appends-nil old, Appends-nil heard)
