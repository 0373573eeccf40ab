-- Reading characters.
use Rattle.std.proofs.Common.{◌≡◌, ℕ, arith, List, [], ◌∷◌, ◌++◌, length, true, refl, sym, ap, ◌∙◌, subst, Some, None, is_some, IsUtf8, codes, encode_utf8, chars}
use Rattle.std.proofs.lemmas.Str.{chars-nil, chars_past_char, IsUtf8-past_char}
use Rattle.dagcbor_core.specs.Names.{Names}
use Rattle.dagcbor_heads.specs.Reading.{Reading}
use Rattle.dagcbor_heads.specs.Refusals.{Refuses}
use Rattle.dagcbor_core.specs.declared.name.Name.{Name}
use Rattle.dagcbor_core.specs.declared.error.DecodeError.{DecodeError}
use Rattle.dagcbor_core.specs.declared.error.DecodeError.TheVariants.{Msg}
use Rattle.ipld_tree.specs.Spelling.{IsFront}
use Rattle.ipld_tree.proofs.Fronts.{front_unique}
use Rattle.dagcbor_items.specs.TypedReads.{HasFront, TakesFront}
use Rattle.dagcbor_items.specs.Shapes.{only, view_text, view_char, leaf}
use Rattle.dagcbor_items.proofs.StringReads.{shown_text}
use Rattle.dagcbor_decode.specs.Decode.{msg}
use Rattle.dagcbor_decode.specs.Verdicts.{IsRefusal}
use Rattle.dagcbor_decode.proofs.Named.{named}
use Rattle.dagcbor_decode.proofs.Refusals.{refused_then, refused_after, kept_short}
use Rattle.dagcbor_heads.proofs.Taking.{stays}
use Rattle.dagcbor_heads.proofs.Refusing.{passed_on}
use Rattle.dagcbor_items.specs.Leaves.{text_at, one_char as one_char'}
use Rattle.dagcbor_items.specs.ReadCauses.{CharCause, TextCause}
use Rattle.dagcbor_items.proofs.LeafRefusals.{text_stands}
use Rattle.ipld_tree.specs.Tree.{Tree, text}

empty : (s : List ℕ) → length s ≡ 0 → s ≡ []
empty [] e = refl
empty (c ∷ s) e = absurd (cc e)

pub one_char : (s rest : List ℕ) (c : ℕ) → IsUtf8 s → s ≡ encode_utf8 c ++ rest → length rest ≡ 0 → Some c ≡ only (chars s)
one_char s rest c u e none = sym (ap only (chars_past_char s rest c u e ∙ ap (λ x. c ∷ chars x) (empty rest none) ∙ ap (λ x. c ∷ x) chars-nil))

pub two_chars : (s rest more : List ℕ) (c d : ℕ) → IsUtf8 s → s ≡ encode_utf8 c ++ rest → rest ≡ encode_utf8 d ++ more → None ≡ only (chars s)
two_chars s rest more c d u e f = sym (ap only (chars_past_char s rest c u e ∙ ap (λ x. c ∷ x) (chars_past_char rest more d (IsUtf8-past_char s rest c u e) f)))

-- ---- a text of one character

-- the refusal of a text that does not have exactly one character
abbrev IsCharMessage : {E : Type 0} → DecodeError E → Type 0
IsCharMessage e = (message : Name) × (e ≡ Msg message) × Names message (codes "Char must be one character")

pub no_char : {E : Type 0} (lacks : Type 0) {old new : Reading} (e : DecodeError E) (s t : List ℕ) → IsCharMessage e → t ≡ s → None ≡ only (chars t) → TakesFront (leaf view_text) old s new
    → Refuses (record { could = HasFront (leaf view_char) old; lacks = lacks; borrows = ⊥; stands = CharCause }) old e new
no_char {E} lacks {old} {new} e s t is same none h = subst (λ x. Refuses {E = E} (record { could = HasFront (leaf view_char) old; lacks = lacks; borrows = ⊥; stands = CharCause }) old x new) (sym is.1) (
  h.same.faults,
  λ i. let k = h.taken i.bytes i.left in
      let tree = (front_unique i.bytes i.rest k.1 i.tree k.0 i.front k.2).0 ∙ shown_text k.0 s k.3 in
      let shown : is_some (only (chars s)) ≡ true = ap (λ t. is_some (view_char t)) (sym tree) ∙ i.accepted in
      absurd (cc (shown, nothing)),
  λ b l. let k = h.taken b l in char_cause b k.1 (subst (λ t. IsFront b t k.1) (shown_text k.0 s k.3) k.2),
)
  where
    nothing : only (chars s) ≡ None
    nothing = ap (λ x. only (chars x)) (sym same) ∙ sym none

    char_cause : (b rest : List ℕ) → IsFront b (text s) rest → CharCause {E = E} (Msg is.0) b
    char_cause b rest f = refused_then {E = E} (text_at (codes "string") b) (λ s. one_char' (only (chars s))) s rest (Msg is.0) (text_stands (codes "string") b s rest f)
        (subst (λ o. IsRefusal {E = E} (one_char' o rest) (Msg is.0)) (sym nothing) (ap (λ x. Some (msg x)) (named is.0 (codes "Char must be one character") (codes "Char must be one character") is.2 refl (omega arith))))

-- there was no text at the front
pub char_text_refused : {E : Type 0} (lacks : Type 0) (old new : Reading) (e : DecodeError E) → Refuses (record { could = HasFront (leaf view_text) old; lacks = lacks; borrows = ⊥; stands = TextCause (codes "string") }) old e new
    → Refuses (record { could = HasFront (leaf view_char) old; lacks = lacks; borrows = ⊥; stands = CharCause }) old e new
char_text_refused {E} lacks old new e r = passed_on (TextCause (codes "string")) CharCause old old new e (stays old)
    (λ h. record { bytes = h.bytes; tree = h.tree; rest = h.rest; left = h.left; front = h.front; accepted = is_a_text h.tree h.accepted; within = h.within }) (λ x. x) (λ x. x)
    (λ b l. (b, l, λ h. refused_after (text_at (codes "string") b) (λ s. one_char' (only (chars s))) e (h (codes "string") (kept_short (codes "string") (omega arith))))) r
  where
    is_a_text : (t : Tree) → is_some (view_char t) ≡ true → is_some (view_text t) ≡ true
    is_a_text (text s) h = refl
    is_a_text _ h = absurd (cc h)
