-- How texts are written one after the other.
use Rattle.std.proofs.Common.{◌≡◌, ℕ, List, [], ◌∷◌, ◌++◌, refl, sym, ap, ◌∙◌, subst, append_assoc, codes, decimal, Option, Result, Ok, Err, IsErrAnd}
use Rattle.std.proofs.KnownBytes.{Appends-trans}
use Rattle.ipld_tree.specs.Cid.{CidParts}
use Rattle.text_cid.specs.Texts.{cid_text}
use Rattle.program_parts.proofs.Saying.{line_whole}
use Rattle.program_shared.specs.Writing.{WritesFront}
use Rattle.program_shared.specs.declared.fault.ToolError.{ToolError}
use Rattle.program_dagstore.specs.Refusals.{dagstore_line}

module _ {A : Type 0} where
  pub front_both : (before mid after : Option (List ℕ)) (x y : List ℕ) (first r : Result A ToolError) (a : A) → first ≡ Ok a → WritesFront before mid first x → WritesFront mid after r y → WritesFront before after r (x ++ y)
  front_both before mid after x y first r a ok h k =
      let whole = line_whole before mid x x (subst (λ f. WritesFront before mid f x) ok h) refl in
      (x ++ k.0, k.1, ap (λ z. x ++ z) k.2 ∙ sym (append_assoc x k.0 k.1), Appends-trans before mid after x k.0 whole k.3, k.4)

  pub front_stopped : (before after : Option (List ℕ)) (x y : List ℕ) (first r : Result A ToolError) (P : ToolError → Type 0) → IsErrAnd r P → WritesFront before after first x → WritesFront before after r (x ++ y)
  front_stopped before after x y first (Ok a) P is h = absurd is
  front_stopped before after x y first (Err e) P is h = (h.0, h.1 ++ y, ap (λ z. z ++ y) h.2 ∙ append_assoc h.0 h.1 y, h.3, tt)

  pub told_both : (before after : Option (List ℕ)) (first second a b : List ℕ) (r : Result A ToolError) → a ≡ first → b ≡ second → WritesFront before after r ((codes "dagstore: " ++ a) ++ (b ++ 10 ∷ [])) → WritesFront before after r (dagstore_line (first ++ second))
  told_both before after first second a b r is other h =
      subst (λ t. WritesFront before after r (codes "dagstore: " ++ t)) (ap (λ z. z ++ (b ++ 10 ∷ [])) is ∙ ap (λ z. first ++ (z ++ 10 ∷ [])) other ∙ sym (append_assoc first second (10 ∷ []))) h

  pub told_number : (before after : Option (List ℕ)) (first second words a b w d : List ℕ) (number : ℕ) (r : Result A ToolError) → a ≡ first → b ≡ second → w ≡ words → d ≡ decimal number
      → WritesFront before after r ((codes "dagstore: " ++ a) ++ ((b ++ w) ++ (d ++ 10 ∷ []))) → WritesFront before after r (dagstore_line (first ++ (second ++ (words ++ decimal number))))
  told_number before after first second words a b w d number r is other between shown h = subst (λ t. WritesFront before after r (codes "dagstore: " ++ t)) whole h
    where
      told : List ℕ
      told = words ++ decimal number

      spelled : a ++ ((b ++ w) ++ (d ++ 10 ∷ [])) ≡ first ++ ((second ++ words) ++ (decimal number ++ 10 ∷ []))
      spelled = ap (λ z. z ++ ((b ++ w) ++ (d ++ 10 ∷ []))) is ∙ ap (λ z. first ++ ((z ++ w) ++ (d ++ 10 ∷ []))) other ∙ ap (λ z. first ++ ((second ++ z) ++ (d ++ 10 ∷ []))) between
          ∙ ap (λ z. first ++ ((second ++ words) ++ (z ++ 10 ∷ []))) shown

      whole : a ++ ((b ++ w) ++ (d ++ 10 ∷ [])) ≡ (first ++ (second ++ told)) ++ 10 ∷ []
      whole = spelled ∙ ap (λ z. first ++ z) (append_assoc second words (decimal number ++ 10 ∷ []) ∙ ap (λ z. second ++ z) (sym (append_assoc words (decimal number) (10 ∷ []))) ∙ sym (append_assoc second told (10 ∷ []))) ∙ sym (append_assoc first (second ++ told) (10 ∷ []))

module _ {A : Type 0} where
  pub name_told : (before after : Option (List ℕ)) (name : CidParts) (a : List ℕ) (r : Result A ToolError) → a ≡ cid_text name → WritesFront before after r ((codes "dagstore: of " ++ a) ++ 10 ∷ []) → WritesFront before after r (dagstore_line (codes "of " ++ cid_text name))
  name_told before after name a r is h = subst (λ t. WritesFront before after r ((codes "dagstore: of " ++ t) ++ 10 ∷ [])) is h

  pub named_told : (before after : Option (List ℕ)) (name : CidParts) (first second t a b : List ℕ) (r : Result A ToolError) → t ≡ cid_text name → a ≡ first → b ≡ second → WritesFront before after r ((codes "dagstore: " ++ t) ++ ((a ++ b) ++ 10 ∷ [])) → WritesFront before after r (dagstore_line (cid_text name ++ (first ++ second)))
  named_told before after name first second t a b r is one two h = subst (λ z. WritesFront before after r (codes "dagstore: " ++ z)) whole h
    where
      whole : t ++ ((a ++ b) ++ 10 ∷ []) ≡ (cid_text name ++ (first ++ second)) ++ 10 ∷ []
      whole = ap (λ z. z ++ ((a ++ b) ++ 10 ∷ [])) is ∙ ap (λ z. cid_text name ++ ((z ++ b) ++ 10 ∷ [])) one ∙ ap (λ z. cid_text name ++ ((first ++ z) ++ 10 ∷ [])) two ∙ sym (append_assoc (cid_text name) (first ++ second) (10 ∷ []))
