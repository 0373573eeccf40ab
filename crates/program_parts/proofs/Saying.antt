-- How a line is written.
use Rattle.std.proofs.Common.{◌≡◌, ◌↔◌, inl, inr, ℕ, ◌==◌, List, [], ◌∷◌, ◌++◌, length, Bool, true, IsTrue, ◌&&◌, eqb-true, refl, sym, ap, ◌∙◌, subst, append_assoc, append-nil, Option, Result, Ok, Err, OnOk, IsErrAnd, Some}
use Rattle.std.proofs.Math.Bool.{and-true, and_assoc}
use Rattle.std.proofs.lemmas.List.{nil_from_length}
use Rattle.std.specs.Io.KnownBytes.{Appends}
use Rattle.std.proofs.KnownBytes.{Appends-nil}
use Rattle.dagcbor_core.specs.Appends.{AppendsFront}
use Rattle.dagcbor_core.specs.declared.error.EncodeError.{EncodeError}
use Rattle.dagcbor_core.specs.declared.error.EncodeError.TheVariants as unsent
use Rattle.dagcbor_heads.specs.Written.{Written, Stops}
use Rattle.program_parts.specs.Lines.{IsSaidOfEach, TextFails, BreaksLine, SaysToDevice, SaysBoth, SaysLines}
use Rattle.program_shared.specs.declared.fault.ToolError.{ToolError}
use Rattle.program_shared.specs.declared.fault.ToolError.TheVariants.{Input, Output, OutOfMemory}

pub line_whole : (before after : Option (List ℕ)) (bytes text : List ℕ) → ((front back : List ℕ) × (bytes ≡ front ++ back) × Appends before after front × (back ≡ [])) → bytes ≡ text → Appends before after text
line_whole before after bytes text k e = subst (Appends before after) (sym (k.2 ∙ ap (λ x. k.0 ++ x) k.4 ∙ append-nil k.0) ∙ e) k.3

-- a fault of the device: a prefix of the text was written
pub front_sent : {E : Type 0} (text : List ℕ) (old new : Written) (e : EncodeError E) (f : E) (before after : Option (List ℕ)) → Stops (Some text) old new e → e ≡ unsent.Write f → old.bytes ≡ before → new.bytes ≡ after → AppendsFront before after text
front_sent text old new e f before after stops is b a = subst (λ x. AppendsFront x after text) b (subst (λ x. AppendsFront old.bytes x text) a (subst (Stops (Some text) old new) is stops).0)

-- the lines of a run broke off in such a text
pub text_breaks : (IsLine : List ℕ → Type 0) (text : List ℕ) (before after : Option (List ℕ)) (e : ToolError) → IsLine text → TextFails text before e after → BreaksLine IsLine before after e
text_breaks IsLine text before after Output is k = inr (k.0, k.1, subst IsLine k.2 is, refl, k.3)
text_breaks IsLine text before after OutOfMemory is same = inl (subst (λ x. Appends before x []) (sym same) (Appends-nil before))
text_breaks IsLine text before after Input is k = absurd k

-- these lines are the output
pub lines_said : (IsSaid : Bool → List ℕ → Type 0) (said : List ℕ) (well : Bool) (before after : Option (List ℕ)) (r : Result Bool ToolError) → IsSaid well said → SaysLines said well before r after → SaysToDevice IsSaid before r after
lines_said IsSaid said well before after (Ok answer) is k = (said, subst (λ w. IsSaid w said) (sym k.0) is, k.1)
lines_said IsSaid said well before after (Err e) is k = text_breaks (λ out. (answer : Bool) × IsSaid answer out) said before after e (well, is) k

-- these lines are the output and the error output
pub both_said : (IsSaid : Bool → List ℕ → List ℕ → Type 0) (lines text : List ℕ) (well : Bool) (old heard : Option (List ℕ)) (r : Result Bool ToolError) (new after : Option (List ℕ)) → IsSaid well lines text
    → SaysBoth (λ w said told. (w ≡ well) × (said ≡ lines) × (told ≡ text)) old heard r new after → SaysBoth IsSaid old heard r new after
both_said IsSaid lines text well old heard (Ok w) new after is k = (k.0, k.1, same, k.3, k.4)
  where
    same : IsSaid w k.0 k.1
    same = subst (λ x. x) (λ i. IsSaid (sym k.2.0 i) (sym k.2.1 i) (sym k.2.2 i)) is
both_said IsSaid lines text well old heard (Err e) new after is (inl none) = inl none
both_said IsSaid lines text well old heard (Err e) new after is (inr k) =
    inr (k.0, k.1, k.2, k.3, k.4, subst (λ x. x) (λ i. IsSaid (sym k.5.0 i) (sym k.5.1 i) (sym k.5.2 i)) is, k.6, k.7, k.8)

-- what holds of one answer holds of the other
pub both_of : (P Q : Bool → List ℕ → List ℕ → Type 0) (old heard : Option (List ℕ)) (r : Result Bool ToolError) (new after : Option (List ℕ)) → ((well : Bool) (said told : List ℕ) → P well said told → Q well said told) → SaysBoth P old heard r new after → SaysBoth Q old heard r new after
both_of P Q old heard (Ok w) new after f k = (k.0, k.1, f w k.0 k.1 k.2, k.3, k.4)
both_of P Q old heard (Err e) new after f (inl none) = inl none
both_of P Q old heard (Err e) new after f (inr k) = inr (k.0, k.1, k.2, k.3, k.4, f k.0 (k.1 ++ k.2) (k.3 ++ k.4) k.5, k.6, k.7, k.8)

-- if writing the output broke off, there is no error line
pub first_broken : (lines text bytes : List ℕ) (well : Bool) (old heard : Option (List ℕ)) (r : Result Bool ToolError) (new : Option (List ℕ)) (x : ToolError) → bytes ≡ lines → IsErrAnd r (λ e. e ≡ x) → x ≡ Output
    → ((front back : List ℕ) × (bytes ≡ front ++ back) × Appends old new front) → SaysBoth (λ w said told. (w ≡ well) × (said ≡ lines) × (told ≡ text)) old heard r new heard
first_broken lines text bytes well old heard (Ok w) new x same is fault k = absurd is
first_broken lines text bytes well old heard (Err e) new x same is fault k =
    inr (well, k.0, k.1, [], text, (refl, sym k.2 ∙ same, refl), is ∙ fault, k.3, Appends-nil heard)

-- a list is reported as empty exactly if it is
pub told_empty : {X : Type 0} (xs : List X) (b : Bool) → b ≡ (length xs == 0) → IsTrue b ↔ (xs ≡ [])
told_empty xs b is = (λ h. nil_from_length xs (eqb-true (length xs) 0 (sym is ∙ h)), λ none. is ∙ ap (λ l. length l == 0) none)

pub known_anyway : {A E X : Type 0} (r : Result A E) → X → OnOk r X
known_anyway (Ok v) x = x
known_anyway (Err e) x = tt

-- ---- each, one after the other

-- one more
pub each_push : {X : Type 0} (IsSaid : X → Bool → List ℕ → Type 0) (xs : List X) (x : X) (all well : Bool) (lines line : List ℕ) → IsSaidOfEach IsSaid xs all lines → IsSaid x well line → IsSaidOfEach IsSaid (xs ++ x ∷ []) (all && well) (lines ++ line)
each_push IsSaid [] x all well lines line h is = (well, true, line, [], is, (refl, refl), ap (λ b. b && well) h.0 ∙ sym (and-true well), ap (λ y. y ++ line) h.1 ∙ sym (append-nil line))
each_push IsSaid (y ∷ xs) x all well lines line h is = (
  h.0,
  h.1 && well,
  h.2,
  h.3 ++ line,
  h.4,
  each_push IsSaid xs x h.1 well h.3 line h.5 is,
  ap (λ b. b && well) h.6 ∙ and_assoc h.0 h.1 well,
  ap (λ z. z ++ line) h.7 ∙ append_assoc h.2 h.3 line,
)

-- what is said of each, in other words
pub each_map : {X : Type 0} (P Q : X → Bool → List ℕ → Type 0) (xs : List X) (well : Bool) (out : List ℕ) → ((x : X) (w : Bool) (t : List ℕ) → P x w t → Q x w t) → IsSaidOfEach P xs well out → IsSaidOfEach Q xs well out
each_map P Q [] well out f h = h
each_map P Q (x ∷ xs) well out f h = (h.0, h.1, h.2, h.3, f x h.0 h.2 h.4, each_map P Q xs h.1 h.3 f h.5, h.6, h.7)
