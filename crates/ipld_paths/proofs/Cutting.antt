-- Texts of paths, cut at their slashes.
use Rattle.std.proofs.Common.{◌≡◌, ◌≢◌, inl, inr, ℕ, suc, ◌<◌, List, [], ◌∷◌, ◌++◌, length, get_or, refl, sym, ap, ◌∙◌, arith, append_assoc, append-nil, Bool, true, false, nat_eq, if◌then◌else◌, Option, None, Some}
use Rattle.std.proofs.lemmas.Bool.{ne_eqb, eqb-false, eqb-true, cases_lt}
use Rattle.std.proofs.lemmas.Option.{slice_get-get_or, get_or_from_slice_get}
use Rattle.std.specs.List.{slice_get}
use Rattle.ipld_paths.specs.Paths.{onto_first, pieces, without_empty, segments}
use Rattle.ipld_paths.specs.Parts.{EndsWith}

-- the text has no slash
abbrev pub HasNoSlash : List ℕ → Type 0
HasNoSlash s = (i : ℕ) → i < length s → get_or s i 0 ≢ 47

after_first : (b : ℕ) (s : List ℕ) → HasNoSlash (b ∷ s) → HasNoSlash s
after_first b s none = λ i few. none (suc i) (omega arith)

other_first : (b : ℕ) (bs : List ℕ) → b ≢ 47 → pieces (b ∷ bs) ≡ onto_first b (pieces bs)
other_first b bs other = ap (λ t. if t then [] ∷ pieces bs else onto_first b (pieces bs)) (ne_eqb b 47 other)

pub piece_cut : (s more : List ℕ) → HasNoSlash s → pieces (s ++ 47 ∷ more) ≡ s ∷ pieces more
piece_cut [] more none = refl
piece_cut (b ∷ s) more none = other_first b (s ++ 47 ∷ more) (none 0 (omega arith)) ∙ ap (onto_first b) (piece_cut s more (after_first b s none))

pub last_piece : (s : List ℕ) → HasNoSlash s → pieces s ≡ s ∷ []
last_piece [] none = refl
last_piece (b ∷ s) none = other_first b s (none 0 (omega arith)) ∙ ap (onto_first b) (last_piece s (after_first b s none))

kept : (s : List ℕ) (more : List (List ℕ)) → 0 < length s → without_empty (s ∷ more) ≡ s ∷ without_empty more
kept [] more some = absurd (omega arith)
kept (b ∷ s) more some = refl

dropped : (s : List ℕ) (more : List (List ℕ)) → length s ≡ 0 → without_empty (s ∷ more) ≡ without_empty more
dropped [] more none = refl
dropped (b ∷ s) more none = absurd (omega arith)

-- a segment before a slash
pub segment_cut : (path s more : List ℕ) → path ≡ s ++ 47 ∷ more → HasNoSlash s → 0 < length s → segments path ≡ s ∷ segments more
segment_cut path s more is none some = ap segments is ∙ ap without_empty (piece_cut s more none) ∙ kept s (pieces more) some

-- nothing before a slash
pub slash_dropped : (path s more : List ℕ) → path ≡ s ++ 47 ∷ more → HasNoSlash s → length s ≡ 0 → segments path ≡ segments more
slash_dropped path s more is none empty = ap segments is ∙ ap without_empty (piece_cut s more none) ∙ dropped s (pieces more) empty

pub last_segment : (s : List ℕ) → HasNoSlash s → 0 < length s → segments s ≡ s ∷ []
last_segment s none some = ap without_empty (last_piece s none) ∙ kept s [] some

-- ---- tests of lengths

pub not_empty : (s : List ℕ) (t : Bool) → t ≡ nat_eq (length s) 0 → t ≡ false → 0 < length s
not_empty s t e h = elim (cases_lt 0 (length s)) [ inl some ↦ some | inr none ↦ absurd (eqb-false (length s) 0 (sym e ∙ h) (omega (arith, none))) ]

pub empty : (s : List ℕ) (t : Bool) → t ≡ nat_eq (length s) 0 → t ≡ true → length s ≡ 0
empty s t e h = eqb-true (length s) 0 (sym e ∙ h)

pub no_first : (s : List ℕ) → ◌≡◌ {A = Option ℕ} None (slice_get s 0) → length s ≡ 0
no_first s none = elim (cases_lt 0 (length s)) [ inl some ↦ absurd (cc (none, slice_get-get_or s 0 0 some)) | inr few ↦ omega (arith, few) ]

pub first_is : (s : List ℕ) (b : ℕ) → Some b ≡ slice_get s 0 → get_or s 0 0 ≡ b
first_is s b is = get_or_from_slice_get s 0 b 0 (sym is)

pub some_first : (s : List ℕ) (b : ℕ) → Some b ≡ slice_get s 0 → 0 < length s
some_first [] b is = absurd cc
some_first (a ∷ s) b is = omega arith

-- ---- the text left after a segment

pub after_slash : (path left s more : List ℕ) → EndsWith path left → left ≡ s ++ 47 ∷ more → EndsWith path more
after_slash path left s more ends is =
    let cut = s ++ 47 ∷ [] in
    (ends.0 ++ cut, ends.1 ∙ ap (λ x. ends.0 ++ x) (is ∙ sym (append_assoc s (47 ∷ []) more)) ∙ sym (append_assoc ends.0 cut more))

pub after_all : (path : List ℕ) → EndsWith path []
after_all path = (path, sym (append-nil path))
