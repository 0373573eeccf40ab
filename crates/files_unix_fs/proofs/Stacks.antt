-- Contents one after another.
use Rattle.std.proofs.Common.{◌≡◌, inl, inr, ℕ, zero, suc, ◌+◌, List, [], ◌∷◌, ◌++◌, length, length-append, sum, Option, None, Some, true, false, refl, sym, ap, ◌∙◌, arith, append_assoc, append-nil}
use Rattle.std.specs.Prelude.{◌==◌}
use Rattle.std.proofs.lemmas.List.Sums.{sum_by-cons}
use Rattle.std.proofs.lemmas.Bool.{cases_eq}
use Rattle.std.proofs.lemmas.Bool.Decides.{nat_tests}
use Rattle.files_unix_fs.specs.Files.{joined, of_size, has_empty, linked_bytes, bytes_under}
use Rattle.files_unix_fs.specs.Reading.{Asked, asked_bytes, stack_bytes, row_bytes, IsTotal, IsBelow, AreBelow, followed_by, paired}

-- ---- joins

pub joined-nothing : (c : Option (List ℕ)) → joined c (Some []) ≡ c
joined-nothing None = refl
joined-nothing (Some s) = ap Some (append-nil s)

pub nothing-joined : (c : Option (List ℕ)) → joined (Some []) c ≡ c
nothing-joined None = refl
nothing-joined (Some s) = refl

pub joined-none : (c : Option (List ℕ)) → joined c None ≡ None
joined-none None = refl
joined-none (Some s) = refl

pub joined_assoc : (a b c : Option (List ℕ)) → joined (joined a b) c ≡ joined a (joined b c)
joined_assoc None b c = refl
joined_assoc (Some s) None c = refl
joined_assoc (Some s) (Some t) None = refl
joined_assoc (Some s) (Some t) (Some u) = ap Some (append_assoc s t u)

-- ---- stacks

pub stack-append : (blocks : List ℕ → Option (List ℕ)) (ws : List Asked) (w : Asked) → stack_bytes blocks (ws ++ w ∷ []) ≡ joined (asked_bytes blocks w) (stack_bytes blocks ws)
stack-append blocks [] w = nothing-joined (asked_bytes blocks w) ∙ sym (joined-nothing (asked_bytes blocks w))
stack-append blocks (v ∷ ws) w =
    ap (λ c. joined c (asked_bytes blocks v)) (stack-append blocks ws w)
    ∙ joined_assoc (asked_bytes blocks w) (stack_bytes blocks ws) (asked_bytes blocks v)

pub row-append : (blocks : List ℕ → Option (List ℕ)) (ws : List Asked) (w : Asked) → row_bytes blocks (ws ++ w ∷ []) ≡ joined (row_bytes blocks ws) (asked_bytes blocks w)
row-append blocks [] w = joined-nothing (asked_bytes blocks w) ∙ sym (nothing-joined (asked_bytes blocks w))
row-append blocks (v ∷ ws) w =
    ap (joined (asked_bytes blocks v)) (row-append blocks ws w)
    ∙ sym (joined_assoc (asked_bytes blocks v) (row_bytes blocks ws) (asked_bytes blocks w))

below_parted : (depth : ℕ) (row : List Asked) (w : Asked) → AreBelow depth (row ++ w ∷ []) → AreBelow depth row × IsBelow depth w
below_parted depth [] w h = (tt, h.0)
below_parted depth (v ∷ row) w h = let k = below_parted depth row w h.1 in ((h.0, k.0), k.1)

below_joined : (depth : ℕ) (row : List Asked) (w : Asked) → AreBelow depth row → IsBelow depth w → AreBelow depth (row ++ w ∷ [])
below_joined depth [] w h e = (e, tt)
below_joined depth (v ∷ row) w h e = (h.0, below_joined depth row w h.1 e)

pub record SameWhole (row stack row_before stack_before : List Asked) : Type 0 where
  pub some : row_before ≡ [] → row ≡ []
  pub kept : (depth : ℕ) → AreBelow depth row_before → AreBelow depth row × ((more : List Asked) × (stack ≡ stack_before ++ more) × AreBelow depth more)
  pub same : (blocks : List ℕ → Option (List ℕ)) → joined (row_bytes blocks row) (stack_bytes blocks stack) ≡ joined (row_bytes blocks row_before) (stack_bytes blocks stack_before)

pub none_last : {A : Type 0} (row : List A) (w : A) → row ++ w ∷ [] ≡ [] → ⊥
none_last [] w e = absurd (cc e)
none_last (v ∷ row) w e = absurd (cc e)

pub one_moved : (row stack row_before stack_before : List Asked) (w : Asked) → SameWhole (row ++ w ∷ []) stack row_before stack_before → SameWhole row (stack ++ w ∷ []) row_before stack_before
one_moved row stack row_before stack_before w h = record {
  some = λ e. absurd (none_last row w (h.some e));
  kept = λ depth all.
      let k = h.kept depth all in
      let parted = below_parted depth row w k.0 in
      (parted.0, (k.1.0 ++ w ∷ [], ap (λ s. s ++ w ∷ []) k.1.1 ∙ append_assoc stack_before k.1.0 (w ∷ []), below_joined depth k.1.0 w k.1.2 parted.1));
  same = λ blocks.
      ap (joined (row_bytes blocks row)) (stack-append blocks stack w)
      ∙ sym (joined_assoc (row_bytes blocks row) (asked_bytes blocks w) (stack_bytes blocks stack))
      ∙ ap (λ c. joined c (stack_bytes blocks stack)) (sym (row-append blocks row w))
      ∙ h.same blocks;
}

pub all_moved : (stack row_before stack_before : List Asked) → SameWhole [] stack row_before stack_before → ((blocks : List ℕ → Option (List ℕ)) → stack_bytes blocks stack ≡ joined (row_bytes blocks row_before) (stack_bytes blocks stack_before)) × ((depth : ℕ) → AreBelow depth row_before → (more : List Asked) × (stack ≡ stack_before ++ more) × AreBelow depth more)
all_moved stack row_before stack_before h = (
  λ blocks. sym (nothing-joined (stack_bytes blocks stack)) ∙ h.same blocks,
  λ depth all. (h.kept depth all).1,
)

-- ---- links and sizes

abbrev pub pairs_bytes : (List ℕ → Option (List ℕ)) → Option (List Asked) → Option (List ℕ)
pairs_bytes blocks None = None
pairs_bytes blocks (Some ws) = row_bytes blocks ws

followed-bytes : (blocks : List ℕ → Option (List ℕ)) (w : Asked) (more : Option (List Asked)) → pairs_bytes blocks (followed_by w more) ≡ joined (asked_bytes blocks w) (pairs_bytes blocks more)
followed-bytes blocks w None = sym (joined-none (asked_bytes blocks w))
followed-bytes blocks w (Some more) = refl

pub linked_pairs : (blocks : List ℕ → Option (List ℕ)) (depth : ℕ) (cids : List (List ℕ)) (sizes : List ℕ) → has_empty sizes ≡ false → linked_bytes (bytes_under blocks depth) cids sizes ≡ pairs_bytes blocks (paired depth cids sizes)
linked_pairs blocks depth [] [] some = refl
linked_pairs blocks depth [] (size ∷ sizes) some = refl
linked_pairs blocks depth (cid ∷ cids) [] some = refl
linked_pairs blocks depth (cid ∷ cids) (zero ∷ sizes) some = absurd (cc some)
linked_pairs blocks depth (cid ∷ cids) (suc n ∷ sizes) some =
    let w : Asked = record { cid = cid; size = Some (suc n); depth = depth } in
    ap (joined (asked_bytes blocks w)) (linked_pairs blocks depth cids sizes some)
    ∙ sym (followed-bytes blocks w (paired depth cids sizes))

-- one size of 0 leaves no content
pub linked_none : (below : List ℕ → Option (List ℕ)) (cids : List (List ℕ)) (sizes : List ℕ) → has_empty sizes ≡ true → linked_bytes below cids sizes ≡ None
linked_none below [] [] some = absurd (cc some)
linked_none below [] (size ∷ sizes) some = refl
linked_none below (cid ∷ cids) [] some = absurd (cc some)
linked_none below (cid ∷ cids) (zero ∷ sizes) some = refl
linked_none below (cid ∷ cids) (suc n ∷ sizes) some =
    ap (joined (of_size (Some (suc n)) (below cid))) (linked_none below cids sizes some) ∙ joined-none (of_size (Some (suc n)) (below cid))

-- ---- sizes

same_test : (a b : ℕ) → a ≡ b → (a == b) ≡ true
same_test a b e = grind (arith, nat_tests)

pub other_test : (a b : ℕ) → (a ≡ b → ⊥) → (a == b) ≡ false
other_test a b e = grind (arith, nat_tests)

sized : (n : ℕ) (c : Option (List ℕ)) (s : List ℕ) → of_size (Some n) c ≡ Some s → length s ≡ n
sized n None s e = absurd (cc e)
sized n (Some t) s e = elim (cases_eq (length t) n) [
  | inl same ↦ let k : Some t ≡ Some s = sym (rw (same_test (length t) n same) refl) ∙ e in
      let l : t ≡ s = cc k in ap length (sym l) ∙ same
  | inr other ↦ let k : ◌≡◌ {A = Option (List ℕ)} None (Some s) = sym (rw (other_test (length t) n other) refl) ∙ e in absurd (cc k)
]

joined_parts : (a b : Option (List ℕ)) (s : List ℕ) → joined a b ≡ Some s → (x y : List ℕ) × (a ≡ Some x) × (b ≡ Some y) × (s ≡ x ++ y)
joined_parts None b s e = absurd (cc e)
joined_parts (Some x) None s e = absurd (cc e)
joined_parts (Some x) (Some y) s e = (x, y, refl, refl, sym (cc e))

pub linked_length : (below : List ℕ → Option (List ℕ)) (cids : List (List ℕ)) (sizes s : List ℕ) → linked_bytes below cids sizes ≡ Some s → length s ≡ sum sizes
linked_length below [] [] s e = let k : [] ≡ s = cc e in ap length (sym k)
linked_length below [] (size ∷ sizes) s e = absurd (cc e)
linked_length below (cid ∷ cids) [] s e = absurd (cc e)
linked_length below (cid ∷ cids) (zero ∷ sizes) s e = absurd (cc e)
linked_length below (cid ∷ cids) (suc n ∷ sizes) s e =
    let p = joined_parts (of_size (Some (suc n)) (below cid)) (linked_bytes below cids sizes) s e in
    omega (arith, sum_by-cons (λ x. x) (suc n) sizes, ap length p.4, length-append p.0 p.1, sized (suc n) (below cid) p.0 p.2, linked_length below cids sizes p.1 p.3)

pub of_total : (size : Option ℕ) (content : List ℕ) (more : Option (List ℕ)) (total : ℕ) → ((s : List ℕ) → more ≡ Some s → length s ≡ total) → IsTotal size (length content + total) → of_size size (joined (Some content) more) ≡ joined (Some content) more
of_total None content more total long is = refl
of_total (Some n) content None total long is = refl
of_total (Some n) content (Some s) total long is = rw (same_test (length (content ++ s)) n (omega (arith, length-append content s, long s refl, is))) refl

pub of_other : (size : Option ℕ) (content : List ℕ) (more : Option (List ℕ)) (total : ℕ) → ((s : List ℕ) → more ≡ Some s → length s ≡ total) → (IsTotal size (length content + total) → ⊥) → of_size size (joined (Some content) more) ≡ None
of_other None content more total long other = absurd (other tt)
of_other (Some n) content None total long other = refl
of_other (Some n) content (Some s) total long other =
    rw (other_test (length (content ++ s)) n (λ e. other (omega (arith, length-append content s, long s refl, e)))) refl
