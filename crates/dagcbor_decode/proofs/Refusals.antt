-- What heads and payloads are refused for, as `Decode.antt` says it.
use Rattle.std.proofs.Common.{◌≡◌, ◌⊎◌, inl, inr, ℕ, ◌%◌, ◌^◌, ◌<◌, ◌≤◌, List, [], ◌∷◌, ◌++◌, length, true, false, ◌==◌, Some, refl, sym, ap, ap₂, ◌∙◌, subst, arith, lt-ltb, mod-eq_of_lt, take, take_all}
use Rattle.std.proofs.lemmas.Bool.{cases_lt}
use Rattle.std.proofs.lemmas.Str.{IsCharBoundary-end}
use Rattle.std.proofs.lemmas.Bool.Decides.{eqb_tells}
use Rattle.std.specs.Int.{w8, w16, w32, w64, Width, from_be_bytes, bytes_high_first}
use Rattle.std.proofs.lemmas.Nat.{from_be_bytes-to_be_bytes_2, from_be_bytes-to_be_bytes_4, from_be_bytes-to_be_bytes_8}
use Rattle.dagcbor_core.specs.Lengths.{len_of}
use Rattle.dagcbor_core.specs.Texts.{IsKept}
use Rattle.dagcbor_core.specs.Names.{Names, name_bytes}
use Rattle.dagcbor_core.specs.Causes.{ByteCause, HeadCause, PayloadCause, IsEndNamed, IsPayloadNamed, IsNamed, argument_width, least_argument}
use Rattle.dagcbor_core.specs.declared.name.Name.{Name}
use Rattle.dagcbor_core.specs.declared.error.Len.{Len}
use Rattle.dagcbor_core.specs.declared.error.Len.TheVariants.{Small}
use Rattle.dagcbor_core.specs.declared.error.DecodeError.{DecodeError}
use Rattle.dagcbor_core.specs.declared.error.DecodeError.TheVariants.{Eof, Unsupported, IndefiniteSize, NonMinimal}
use Rattle.dagcbor_core.proofs.Heads.{length-bytes_high_first}
use Rattle.dagcbor_decode.specs.Decode.{Decoded, Why, got, refused, eof, unsupported, non_minimal, indefinite_size, after, payload, at_least, number, argument_by, argument_of}
use Rattle.dagcbor_decode.specs.Verdicts.{IsRefusal, why_of}
use Rattle.dagcbor_decode.proofs.HeadLaws.{payload_front}

-- ---- refusals of what follows

-- what is refused is refused, whatever was to follow
pub refused_after : {A B E : Type 0} (r : Decoded A) (f : A → List ℕ → Decoded B) (e : DecodeError E) → IsRefusal r e → IsRefusal (after r f) e
refused_after (got a rest) f e h = absurd h
refused_after (refused why left) f e h = h

-- what follows what was read is refused
pub refused_then : {A B E : Type 0} (r : Decoded A) (f : A → List ℕ → Decoded B) (a : A) (rest : List ℕ) (e : DecodeError E) → r ≡ got a rest → IsRefusal (f a rest) e → IsRefusal (after r f) e
refused_then r f a rest e is h = subst (λ x. IsRefusal (after x f) e) (sym is) h

pub refused_as : {A E : Type 0} (r : Decoded A) (why : Why) (left : ℕ) (e : DecodeError E) → r ≡ refused why left → why_of e ≡ Some why → IsRefusal r e
refused_as r why left e is h = subst (λ x. IsRefusal x e) (sym is) h

-- what is refused is not read
pub refused_not_got : {A E : Type 0} (r : Decoded A) (a : A) (rest : List ℕ) (e : DecodeError E) → r ≡ got a rest → IsRefusal r e → ⊥
refused_not_got r a rest e is h = subst (λ x. IsRefusal x e) is h

-- ---- names

-- a text is kept in one way
pub kept_same : {most : ℕ} {a b text : List ℕ} → IsKept most a text → IsKept most b text → a ≡ b
kept_same {most} {a} {b} {text} h k = by (cases_lt h.end k.end) (cases_lt k.end h.end)
  where
    by : (h.end < k.end) ⊎ (k.end ≤ h.end) → (k.end < h.end) ⊎ (h.end ≤ k.end) → a ≡ b
    by (inl less) other = absurd (h.longest k.end less k.short k.at_character)
    by (inr most') (inl less) = absurd (k.longest h.end less h.short h.at_character)
    by (inr most') (inr least) = let same : h.end ≡ k.end = omega (arith, most', least) in h.is ∙ ap (λ n. take n text) same ∙ sym k.is

pub named_as : {kept name : List ℕ} {n : Name} → IsKept 31 kept name → Names n name → name_bytes n ≡ kept
named_as k h = kept_same h.kept k

-- and keeps itself
pub kept_short : (name : List ℕ) → length name ≤ 31 → IsKept 31 name name
kept_short name short = record {
  end = length name;
  is = sym (take_all (length name) name (omega arith));
  short = short;
  at_character = IsCharBoundary-end name;
  longest = λ i more few at. absurd (omega (arith, more, at.0));
}

-- ---- bytes and payloads

pub ended : (E : Type 0) {A : Type 0} (kept name : List ℕ) (n : Name) (x : Len) (expect : ℕ) (r : Decoded A) (left : ℕ) → IsKept 31 kept name → Names n name → x ≡ len_of expect → r ≡ refused (eof kept (len_of expect)) left → IsRefusal {E = E} r (Eof n x)
ended E {A} kept name n x expect r left k h e is = refused_as {E = E} r _ left (Eof n x) is (ap₂ (λ a b. Some (eof a b)) (named_as k h) e)

pub payload_refused : {E : Type 0} (kept name : List ℕ) (n : ℕ) (e : DecodeError E) (b : List ℕ) → IsKept 31 kept name → IsPayloadNamed name e → PayloadCause n e b → IsRefusal (payload kept n b) e
payload_refused {E} kept name n (Eof m x) b k named h = ended E kept name m x n (payload kept n b) 0 k named h.0 (rw (lt-ltb (length b) n h.1) refl)
payload_refused kept name n _ b k named h = absurd h

-- ---- heads

-- the argument of the head at the front
abbrev pub head_read : List ℕ → List ℕ → Decoded ℕ
head_read name [] = refused (eof name (len_of 1)) 0
head_read name (first ∷ b) = argument_of name first b

pub byte_refused : {E : Type 0} (kept name : List ℕ) (e : DecodeError E) (b : List ℕ) → IsKept 31 kept name → IsEndNamed name e → ByteCause e b → IsRefusal (head_read kept b) e
byte_refused {E} kept name (Eof m x) b k named h = ended E kept name m x 1 (head_read kept b) 0 k named h.0 (ap (head_read kept) h.1)
byte_refused kept name _ b k named h = absurd h

-- the additional information of a first byte that is followed by an argument
data Wide (i : ℕ) : Type 0 where
  one : i ≡ 24 → Wide i
  two : i ≡ 25 → Wide i
  four : i ≡ 26 → Wide i
  eight : i ≡ 27 → Wide i

wide : (i : ℕ) → 0 < argument_width i → Wide i
wide i some = elim (eqb_tells i 24) [
  | inl a ↦ one a.1
  | inr a ↦ elim (eqb_tells i 25) [
    | inl b ↦ two b.1
    | inr b ↦ elim (eqb_tells i 26) [
      | inl c ↦ four c.1
      | inr c ↦ elim (eqb_tells i 27) [
        | inl d ↦ eight d.1
        | inr d ↦ let none : argument_width i ≡ 0 = rw (a.0, b.0, c.0, d.0) refl in absurd (omega (arith, none, some))
      ]
    ]
  ]
]

-- a number of fewer bytes than its width
cut : (kept : List ℕ) (first i : ℕ) (more : List ℕ) → length more < argument_width i → argument_by kept first more i ≡ refused (eof kept (len_of (argument_width i))) 0
cut kept first i more h = by (wide i (omega (arith, h)))
  where
    by : Wide i → argument_by kept first more i ≡ refused (eof kept (len_of (argument_width i))) 0
    by (one e) = let k = subst (λ j. length more < argument_width j) e h in rw e (rw (lt-ltb (length more) 1 k) refl)
    by (two e) = let k = subst (λ j. length more < argument_width j) e h in rw e (rw (lt-ltb (length more) 2 k) refl)
    by (four e) = let k = subst (λ j. length more < argument_width j) e h in rw e (rw (lt-ltb (length more) 4 k) refl)
    by (eight e) = let k = subst (λ j. length more < argument_width j) e h in rw e (rw (lt-ltb (length more) 8 k) refl)

-- an argument that a shorter head has
too_small : (kept : List ℕ) (first : ℕ) (w : Width) (width least n : ℕ) (rest : List ℕ) → from_be_bytes w (bytes_high_first width n) ≡ n → n < least → number kept first w width least (bytes_high_first width n ++ rest) ≡ refused (non_minimal kept first) (length rest)
too_small kept first w width least n rest e h =
    ap (λ r. after r (λ s. at_least kept first least (from_be_bytes w s))) (payload_front kept width (bytes_high_first width n) rest (sym (length-bytes_high_first width n)))
    ∙ ap (λ m. at_least kept first least m rest) e ∙ rw (lt-ltb n least h) refl

longer : (kept : List ℕ) (first i n : ℕ) (rest : List ℕ) → n < least_argument (argument_width i) → argument_by kept first (bytes_high_first (argument_width i) n ++ rest) i ≡ refused (non_minimal kept first) (length rest)
longer kept first i n rest h = by (cases_lt 0 (argument_width i))
  where
    at : Wide i → argument_by kept first (bytes_high_first (argument_width i) n ++ rest) i ≡ refused (non_minimal kept first) (length rest)
    at (one e) = let k : n < 24 = subst (λ j. n < least_argument (argument_width j)) e h in rw e (too_small kept first w8 1 24 n rest (mod-eq_of_lt (omega (arith, k))) k)
    at (two e) = let k : n < 2 ^ 8 = subst (λ j. n < least_argument (argument_width j)) e h in rw e (too_small kept first w16 2 (2 ^ 8) n rest (from_be_bytes-to_be_bytes_2 n (omega (arith, k))) k)
    at (four e) = let k : n < 2 ^ 16 = subst (λ j. n < least_argument (argument_width j)) e h in rw e (too_small kept first w32 4 (2 ^ 16) n rest (from_be_bytes-to_be_bytes_4 n (omega (arith, k))) k)
    at (eight e) = let k : n < 2 ^ 32 = subst (λ j. n < least_argument (argument_width j)) e h in rw e (too_small kept first w64 8 (2 ^ 32) n rest (from_be_bytes-to_be_bytes_8 n (omega (arith, k))) k)

    by : (0 < argument_width i) ⊎ (argument_width i ≤ 0) → argument_by kept first (bytes_high_first (argument_width i) n ++ rest) i ≡ refused (non_minimal kept first) (length rest)
    by (inl some) = at (wide i some)
    by (inr none) = let zero' : argument_width i ≡ 0 = omega (arith, none) in let k : n < 0 = subst (λ j. n < least_argument j) zero' h in absurd (omega (arith, k))

reserved : (kept : List ℕ) (first i : ℕ) (more : List ℕ) → 28 ≤ i → i ≤ 30 → argument_by kept first more i ≡ refused (unsupported kept first) (length more)
reserved kept first i more least most = by (eqb_tells i 28) (eqb_tells i 29) (eqb_tells i 30)
  where
    Tells : ℕ → Type 0
    Tells n = (((i == n) ≡ true) × (i ≡ n)) ⊎ (((i == n) ≡ false) × (i ≡ n → ⊥))

    by : Tells 28 → Tells 29 → Tells 30 → argument_by kept first more i ≡ refused (unsupported kept first) (length more)
    by (inl a) y z = rw a.1 refl
    by (inr a) (inl b) z = rw b.1 refl
    by (inr a) (inr b) (inl c) = rw c.1 refl
    by (inr a) (inr b) (inr c) = absurd (omega (arith, a.1, b.1, c.1, least, most))

-- the bytes do not begin with a head
pub head_refused : {E : Type 0} (kept name : List ℕ) (e : DecodeError E) (b : List ℕ) → IsKept 31 kept name → IsNamed name e → HeadCause e b → IsRefusal (head_read kept b) e
head_refused {E} kept name (Eof m x) [] k named h = ended E kept name m x 1 (head_read kept []) 0 k named h refl
head_refused {E} kept name (Eof m x) (first ∷ more) k named h =
    let small : len_of (argument_width (first % 32)) ≡ Small (argument_width (first % 32)) = rw (lt-ltb (argument_width (first % 32)) (2 ^ 16) (few (first % 32))) refl in
    ended E kept name m x (argument_width (first % 32)) (head_read kept (first ∷ more)) 0 k named (h.0 ∙ sym small) (cut kept first (first % 32) more h.1)
  where
    few : (i : ℕ) → argument_width i < 2 ^ 16
    few i = elim (cases_lt 0 (argument_width i)) [
      | inl some ↦ by (wide i some)
      | inr none ↦ omega (arith, none)
    ]
      where
        by : Wide i → argument_width i < 2 ^ 16
        by (one e) = rw e (omega arith)
        by (two e) = rw e (omega arith)
        by (four e) = rw e (omega arith)
        by (eight e) = rw e (omega arith)
head_refused {E} kept name (Unsupported m found) (first ∷ more) k named h = refused_as {E = E} (head_read kept (first ∷ more)) _ _ (Unsupported m found) (reserved kept first (first % 32) more h.1 h.2) (ap₂ (λ a b. Some (unsupported a b)) (named_as k named) h.0)
head_refused {E} kept name IndefiniteSize (first ∷ more) k named h = refused_as {E = E} (head_read kept (first ∷ more)) indefinite_size (length more) IndefiniteSize (ap (argument_by kept first more) h) refl
head_refused {E} kept name (NonMinimal m found) (first ∷ more) k named h = refused_as {E = E} (head_read kept (first ∷ more)) _ (length h.1.1) (NonMinimal m found)
    (ap (λ x. argument_by kept first x (first % 32)) h.1.3 ∙ longer kept first (first % 32) h.1.0 h.1.1 h.1.2) (ap₂ (λ a b. Some (non_minimal a b)) (named_as k named) h.0)
head_refused kept name _ b k named h = absurd h
