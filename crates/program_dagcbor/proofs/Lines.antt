-- The lines of a text, from its start.
use Rattle.std.proofs.Common.{◌≡◌, ◌≢◌, ◌++◌, ◌∷◌, ◌<◌, ◌-◌, ◌+◌, ◌==◌, ℕ, suc, Bool, true, false, cond, List, [], length, take, drop, slice_index, All, refl, sym, ap, ◌∙◌, add-one, append_assoc, arith, length-drop, ne_eqb, take-append-drop, take_all, drop-cons}
use Rattle.std.proofs.lemmas.List.Elements.{All-append}
use Rattle.std.proofs.lemmas.List.Splits.{slice_split_none, slice_split_at}
use Rattle.std.specs.List.{slice_split, onto_first}
use Rattle.std.specs.Str.Lines.{lines, lines_of_parts, strip_carriage_return}
use Rattle.program_dagcbor.specs.Answers.{BeginsWithLines}

abbrev is_feed : ℕ → Bool
is_feed b = b == 10

no_feed : (xs : List ℕ) → All (λ b. b ≢ 10) xs → All (λ b. is_feed b ≡ false) xs
no_feed xs plain = λ k d h. ne_eqb _ _ (plain k d h)

some_part : (xs : List ℕ) → (first : List ℕ) × (more : List (List ℕ)) × (slice_split is_feed xs ≡ first ∷ more)
some_part [] = ([], [], refl)
some_part (x ∷ xs) = at (is_feed x) (slice_split is_feed xs)
  where
    at : (b : Bool) (parts : List (List ℕ)) → (first : List ℕ) × (more : List (List ℕ)) × (cond b ([] ∷ parts) (onto_first x parts) ≡ first ∷ more)
    at true parts = ([], parts, refl)
    at false [] = (x ∷ [], [], refl)
    at false (part ∷ parts) = (x ∷ part, parts, refl)

lines_whole : (front rest : List ℕ) → All (λ b. b ≢ 10) front → lines (front ++ 10 ∷ rest) ≡ strip_carriage_return front ∷ lines rest
lines_whole front rest plain =
    let p = some_part rest in
    ap lines_of_parts (slice_split_at is_feed front 10 rest (no_feed front plain) refl ∙ ap (λ (parts : List (List ℕ)). front ∷ parts) p.2)
    ∙ ap (λ (parts : List (List ℕ)). strip_carriage_return front ∷ lines_of_parts parts) (sym p.2)

-- a text without a line feed is one line, if it is not empty
pub lines_last : (xs : List ℕ) → 0 < length xs → All (λ b. b ≢ 10) xs → lines xs ≡ xs ∷ []
lines_last xs some plain =
    ap lines_of_parts (slice_split_none is_feed xs (no_feed xs plain)) ∙ ap (λ (b : Bool). cond b [] (xs ∷ [])) (ne_eqb (length xs) 0 (λ e. omega (arith, e, some)))

-- ---- the first lines of a text

pub begins_next : (text left following : List ℕ) (asked others : List (List ℕ)) → BeginsWithLines text asked left → BeginsWithLines left others following → BeginsWithLines text (asked ++ others) following
begins_next text left following asked others first next more =
    first more ∙ ap (λ (ls : List (List ℕ)). asked ++ ls) (next more) ∙ sym (append_assoc asked others (lines (following ++ more)))

-- a text around its first line feed
around : (text : List ℕ) (at : ℕ) → at < length text → slice_index text at ≡ 10 → text ≡ take at text ++ 10 ∷ drop (at + 1) text
around text at within feed =
    sym (take-append-drop at text)
    ∙ ap (λ (s : List ℕ). take at text ++ s) (drop-cons text at 0 within ∙ ap (λ (b : ℕ). b ∷ drop (suc at) text) feed)
    ∙ ap (λ (n : ℕ). take at text ++ 10 ∷ drop n text) (sym (add-one at))

-- the bytes kept, and the text up to its first line feed, are one line
pub begins_line : (partial text following : List ℕ) (at : ℕ) → All (λ b. b ≢ 10) partial → All (λ b. b ≢ 10) (take at text) → at < length text → slice_index text at ≡ 10
    → following ≡ take (length text - (at + 1)) (drop (at + 1) text) → BeginsWithLines (partial ++ text) (strip_carriage_return (partial ++ take at text) ∷ []) following
begins_line partial text following at plain front within feed is more =
    let tail = drop (at + 1) text in
    let whole : following ≡ tail = is ∙ take_all (length text - (at + 1)) tail (omega (arith, length-drop (at + 1) text)) in
    let regroup : (partial ++ (take at text ++ 10 ∷ tail)) ++ more ≡ (partial ++ take at text) ++ 10 ∷ (tail ++ more) = simp append_assoc in
    ap (λ (s : List ℕ). lines ((partial ++ s) ++ more)) (around text at within feed)
    ∙ ap lines regroup
    ∙ lines_whole (partial ++ take at text) (tail ++ more) (All-append (λ b. b ≢ 10) partial (take at text) plain front)
    ∙ ap (λ (s : List ℕ). strip_carriage_return (partial ++ take at text) ∷ lines (s ++ more)) (sym whole)
