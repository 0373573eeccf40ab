-- Names whose head has one byte, at the front of a slice.
use Rattle.std.proofs.Common.{◌≡◌, Bool, true, false, not, ℕ, ◌+◌, ◌*◌, ◌<◌, List, ◌∷◌, ◌++◌, length, take, refl, sym, ap, ◌∙◌, arith, length-append, take-append-drop, bytes_eq, IsUtf8}
use Rattle.std.proofs.lemmas.Slice.Eq.{bytes_eq-Decides}
use Rattle.std.specs.List.{IsSplitAt}
use Rattle.dagcbor_core.proofs.Heads.{head_whole}
use Rattle.ipld_tree.specs.Spelling.{text_spelling, IsFront}
use Rattle.ipld_tree.specs.Tree.{text}
use Rattle.ipld_tree.proofs.Unique.{split_at_length}

short_text : (name rest : List ℕ) → length name < 24 → text_spelling name ++ rest ≡ (32 * 3 + length name) ∷ (name ++ rest)
short_text name rest h = ap (λ front. (front ++ name) ++ rest) (head_whole 3 (length name) h)

pub name_not_there : {front : List ℕ} (name rest : List ℕ) → length name < 24 → length front ≡ 0 → front ≡ text_spelling name ++ rest → ⊥
name_not_there {front} name rest h none is = omega (arith, none, ap length (is ∙ short_text name rest h))

-- bytes that are compared
pub bytes_differ : {s t : List ℕ} → true ≡ not (bytes_eq s t) → s ≡ t → ⊥
bytes_differ {s} {t} h e = let yes = (bytes_eq-Decides s t).1 e in absurd (cc (h, yes))

pub bytes_agree : {s t : List ℕ} → false ≡ not (bytes_eq s t) → s ≡ t
bytes_agree {s} {t} h = (bytes_eq-Decides s t).0 (by (bytes_eq s t) h)
  where
    by : (b : Bool) → false ≡ not b → b ≡ true
    by true e = refl
    by false e = absurd (cc e)

-- the head and what follows it
pub name_opened : {front following : List ℕ} {first : ℕ} (name rest : List ℕ) → length name < 24 → front ≡ first ∷ following → front ≡ text_spelling name ++ rest → (first ≡ 96 + length name) × (following ≡ name ++ rest)
name_opened {front} {following} {first} name rest h e is =
    let both : first ∷ following ≡ (32 * 3 + length name) ∷ (name ++ rest) = sym e ∙ is ∙ short_text name rest h in
    let same : first ≡ 32 * 3 + length name = cc both in
    (omega (arith, same), cc both)

-- the first n bytes are the name, if it has n bytes
pub name_cut : {following s more : List ℕ} (n : ℕ) (name rest : List ℕ) → n ≡ length name → following ≡ name ++ rest → IsSplitAt following n s more → s ≡ name
name_cut {following} {s} {more} n name rest same is cut =
    let whole : s ++ more ≡ name ++ rest = ap (λ x. x ++ more) cut.1 ∙ ap (λ x. take n following ++ x) cut.2 ∙ take-append-drop n following ∙ is in
    (split_at_length s name more rest (cut.3 ∙ same) whole).0

pub name_found : {front following s more : List ℕ} {first : ℕ} (n : ℕ) (name : List ℕ) → length name < 24 → front ≡ first ∷ following → first ≡ 96 + length name → IsSplitAt following n s more → s ≡ name → front ≡ text_spelling name ++ more
name_found {front} {following} {s} {more} {first} n name h e same cut is =
    let after_is : name ++ more ≡ following = ap (λ x. x ++ more) (sym is ∙ cut.1) ∙ ap (λ x. take n following ++ x) cut.2 ∙ take-append-drop n following in
    let first_is : first ≡ 32 * 3 + length name = omega (arith, same) in
    e ∙ ap (λ x. x ∷ following) first_is ∙ ap (λ x. (32 * 3 + length name) ∷ x) (sym after_is) ∙ sym (short_text name more h)

pub name_long : {front : List ℕ} (name rest : List ℕ) → length name < 24 → front ≡ text_spelling name ++ rest → length front ≡ 1 + length name + length rest
name_long {front} name rest h is = omega (arith, ap length (is ∙ short_text name rest h), length-append name rest)

pub name_front : {front : List ℕ} (name rest : List ℕ) → IsUtf8 name → length name < 24 → front ≡ text_spelling name ++ rest → IsFront front (text name) rest
name_front {front} name rest utf8 h is = record { well_formed = utf8; spellable = omega (arith, h); is = is }
