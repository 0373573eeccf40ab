-- What heads and strings of some major types are read as, and refused for.
use Rattle.std.proofs.Common.{◌≡◌, ◌⊎◌, inl, inr, ℕ, ◌/◌, ◌^◌, ◌<◌, ◌≤◌, ◌||◌, nat_lt, List, ◌∷◌, ◌++◌, length, Bool, true, false, Some, IsUtf8, refl, sym, ap, ◌∙◌, subst, arith, lt-ltb, le-ltb, append_assoc}
use Rattle.std.specs.Str.{is_utf8}
use Rattle.std.proofs.lemmas.Bool.{cases_lt}
use Rattle.std.proofs.lemmas.Str.{IsUtf8-from_is_utf8, is_utf8-from_IsUtf8}
use Rattle.dagcbor_core.specs.Head.{head}
use Rattle.dagcbor_core.specs.Names.{Names}
use Rattle.dagcbor_core.specs.Causes.{ByteCause, HeadCause, PayloadCause, IsEndNamed, IsPayloadNamed, IsNamed}
use Rattle.dagcbor_core.specs.declared.name.Name.{Name}
use Rattle.dagcbor_core.specs.declared.error.DecodeError.{DecodeError}
use Rattle.dagcbor_core.specs.declared.error.DecodeError.TheVariants.{Eof, Mismatch, RequireUtf8}
use Rattle.ipld_tree.specs.Tree.{text}
use Rattle.ipld_tree.specs.Spelling.{IsFront}
use Rattle.dagcbor_decode.specs.Decode.{Decoded, got, refused, mismatch, require_utf8, after, payload, argument_of, string_of, text_of, utf8_of}
use Rattle.dagcbor_decode.specs.Verdicts.{IsRefusal}
use Rattle.dagcbor_decode.proofs.HeadLaws.{head_front, payload_front}
use Rattle.dagcbor_decode.proofs.Refusals.{refused_after, refused_then, refused_as, named_as, ended, payload_refused, head_refused}
use Rattle.dagcbor_items.specs.Leaves.{head_at, string_at, text_at}
use Rattle.dagcbor_items.specs.ReadCauses.{MajorCause, StringCause, TextCause}

-- ---- heads

among : (m low high : ℕ) → low ≤ m → m ≤ high → (nat_lt m low || nat_lt high m) ≡ false
among m low high least most = rw (le-ltb m low least, le-ltb high m most) refl

not_among : (m low high : ℕ) → (low ≤ m → m ≤ high → ⊥) → (nat_lt m low || nat_lt high m) ≡ true
not_among m low high other = by (cases_lt m low) (cases_lt high m)
  where
    by : (m < low) ⊎ (low ≤ m) → (high < m) ⊎ (m ≤ high) → (nat_lt m low || nat_lt high m) ≡ true
    by (inl less) k = rw (lt-ltb m low less) refl
    by (inr least) (inl more) = rw (le-ltb m low least, lt-ltb high m more) refl
    by (inr least) (inr most) = absurd (other least most)

head_opened : (kept : List ℕ) (low high first : ℕ) (more : List ℕ) → low ≤ first / 32 → first / 32 ≤ high → head_at kept low high (first ∷ more) ≡ after (argument_of kept first more) (λ n. got (first / 32, n))
head_opened kept low high first more least most = rw (among (first / 32) low high least most) refl

pub head_stands : (kept : List ℕ) (low high kind n : ℕ) (b c : List ℕ) → n < 2 ^ 64 → low ≤ kind → kind ≤ high → b ≡ head kind n ++ c → head_at kept low high b ≡ got (kind, n) c
head_stands kept low high kind n b c fits least most is =
    let h = head_front kind n c fits in
    ap (head_at kept low high) (is ∙ h.is) ∙ head_opened kept low high h.first h.more (subst (λ m. low ≤ m) (sym h.major_is) least) (subst (λ m. m ≤ high) (sym h.major_is) most)
    ∙ ap (λ x. after x (λ n. got (h.first / 32, n))) (h.reads kept) ∙ ap (λ m. got (m, n) c) h.major_is

-- a missing byte
pub major_byte : {E : Type 0} (name : List ℕ) (low high : ℕ) (e : DecodeError E) (b : List ℕ) → IsEndNamed name e → ByteCause e b → MajorCause name low high e b
major_byte {E} name low high (Eof n x) b named h = λ kept k. ended E kept name n x 1 (head_at kept low high b) 0 k named h.0 (ap (head_at kept low high) h.1)
major_byte name low high _ b named h = absurd h

-- a byte of such a major type that begins no head
pub major_head : {E : Type 0} (name : List ℕ) (low high : ℕ) (e : DecodeError E) (first : ℕ) (b more : List ℕ) → b ≡ first ∷ more → low ≤ first / 32 → first / 32 ≤ high → IsNamed name e → HeadCause e b → MajorCause name low high e b
major_head {E} name low high e first b more is least most named h = λ kept k.
    subst (λ x. IsRefusal x e) (sym (ap (head_at kept low high) is ∙ head_opened kept low high first more least most))
    (refused_after (argument_of kept first more) (λ n. got (first / 32, n)) e (head_refused kept name e (first ∷ more) k named (subst (HeadCause {E = E} e) is h)))

-- a byte of another major type
pub major_other : (E : Type 0) (name : List ℕ) (low high : ℕ) (n : Name) (first : ℕ) (b more : List ℕ) → b ≡ first ∷ more → (low ≤ first / 32 → first / 32 ≤ high → ⊥) → Names n name → MajorCause {E = E} name low high (Mismatch n first) b
major_other E name low high n first b more is other named = λ kept k.
    refused_as {E = E} _ (mismatch kept first) (length more) _ (ap (head_at kept low high) is ∙ rw (not_among (first / 32) low high other) refl) (ap (λ s. Some (mismatch s first)) (named_as k named))

-- ---- strings

pub string_stands : (kept : List ℕ) (kind : ℕ) (b s rest : List ℕ) → length s < 2 ^ 64 → b ≡ head kind (length s) ++ (s ++ rest) → string_at kept kind b ≡ got s rest
string_stands kept kind b s rest fits is =
    ap (λ x. after x (λ h. payload kept h.1)) (head_stands kept kind kind kind (length s) b (s ++ rest) fits (omega arith) (omega arith) is) ∙ payload_front kept (length s) s rest refl

pub string_head : {E : Type 0} (name : List ℕ) (kind : ℕ) (e : DecodeError E) (b : List ℕ) → MajorCause name kind kind e b → StringCause name kind e b
string_head name kind e b h = λ kept k. refused_after (head_at kept kind kind b) (λ h. payload kept h.1) e (h kept k)

pub string_cut : {E : Type 0} (name : List ℕ) (kind n : ℕ) (e : DecodeError E) (b c : List ℕ) → n < 2 ^ 64 → b ≡ head kind n ++ c → IsPayloadNamed name e → PayloadCause n e c → StringCause name kind e b
string_cut name kind n e b c fits is named h = λ kept k.
    refused_then (head_at kept kind kind b) (λ h. payload kept h.1) (kind, n) c e (head_stands kept kind kind kind n b c fits (omega arith) (omega arith) is) (payload_refused kept name n e c k named h)

-- after its first byte
after_same : {A B C : Type 0} (r : Decoded A) (f : A → B) (g : B → List ℕ → Decoded C) → after (after r (λ a. got (f a))) g ≡ after r (λ a. g (f a))
after_same (got a rest) f g = refl
after_same (refused why left) f g = refl

pub string_read : (kept : List ℕ) (kind first : ℕ) (more : List ℕ) → first / 32 ≡ kind → string_at kept kind (first ∷ more) ≡ string_of kept first more
string_read kept kind first more m =
    ap (λ x. after x (λ h. payload kept h.1)) (head_opened kept kind kind first more (omega (arith, m)) (omega (arith, m))) ∙ after_same (argument_of kept first more) (λ n. (first / 32, n)) (λ h. payload kept h.1)

pub text_read : (kept : List ℕ) (first : ℕ) (more : List ℕ) → first / 32 ≡ 3 → text_at kept (first ∷ more) ≡ text_of kept first more
text_read kept first more m = ap (λ x. after x (utf8_of kept)) (string_read kept 3 first more m)

-- ---- texts

pub other_text : (kept : List ℕ) (first : ℕ) (more : List ℕ) → (first / 32 ≡ 3 → ⊥) → text_at kept (first ∷ more) ≡ refused (mismatch kept first) (length more)
other_text kept first more other = rw (not_among (first / 32) 3 3 (λ least most. other (omega (arith, least, most)))) refl

pub text_string : {E : Type 0} (name : List ℕ) (e : DecodeError E) (b : List ℕ) → StringCause name 3 e b → TextCause name e b
text_string name e b h = λ kept k. refused_after (string_at kept 3 b) (utf8_of kept) e (h kept k)

pub text_garbled : (E : Type 0) (name : List ℕ) (n : Name) (b s rest : List ℕ) → length s < 2 ^ 64 → b ≡ head 3 (length s) ++ (s ++ rest) → Names n name → (IsUtf8 s → ⊥) → TextCause {E = E} name (RequireUtf8 n) b
text_garbled E name n b s rest fits is named other = λ kept k.
    refused_then {E = E} (string_at kept 3 b) (utf8_of kept) s rest (RequireUtf8 n) (string_stands kept 3 b s rest fits is)
    (refused_as {E = E} (utf8_of kept s rest) (require_utf8 kept) (length rest) (RequireUtf8 n) (by kept) (ap (λ x. Some (require_utf8 x)) (named_as k named)))
  where
    none : is_utf8 s ≡ false
    none = not_true (is_utf8 s) (λ yes. other (IsUtf8-from_is_utf8 s yes))
      where
        not_true : (t : Bool) → (t ≡ true → ⊥) → t ≡ false
        not_true true other' = absurd (other' refl)
        not_true false other' = refl

    by : (kept : List ℕ) → utf8_of kept s rest ≡ refused (require_utf8 kept) (length rest)
    by kept = rw none refl

pub text_stands : (kept b s rest : List ℕ) → IsFront b (text s) rest → text_at kept b ≡ got s rest
text_stands kept b s rest f =
    ap (λ x. after x (utf8_of kept)) (string_stands kept 3 b s rest f.spellable (f.is ∙ append_assoc (head 3 (length s)) s rest)) ∙ rw (is_utf8-from_IsUtf8 s f.well_formed) refl
