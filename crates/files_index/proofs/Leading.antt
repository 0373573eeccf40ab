-- Where an index of sorted entries leads.
use Rattle.std.specs.Bool.{⊤}
use Rattle.std.proofs.Common.{◌≡◌, ℕ, suc, zero, ◌+◌, ◌-◌, ◌*◌, ◌^◌, ◌<◌, ◌≤◌, true, false, List, [], ◌∷◌, ◌++◌, length, drop, Option, Some, sym, ap, ◌∙◌, subst, refl, inl, inr, arith, append_assoc, flat_map, length-append}
use Rattle.std.proofs.lemmas.Grind.{flat_map-append}
use Rattle.std.proofs.Math.Nat.{mul_comm}
use Rattle.std.proofs.lemmas.Bool.{cases_lt}
use Rattle.std.proofs.lemmas.Map.Lookups.{exact_bytes}
use Rattle.std.proofs.lemmas.Cmp.{nat_list_cmp_total}
use Rattle.files_index.proofs.Lookups.{same_equal}
use Rattle.std.specs.List.{AllByRecursion}
use Rattle.std.specs.Int.{w64, to_le_bytes}
use Rattle.std.specs.Ordering.{nat_cmp, is_lt, ordering_index}
use Rattle.std.specs.Cmp.Lexicographic.{slice_cmp}
use Rattle.std.specs.declared.cmp.Ordering.{Ordering}
use Rattle.std.specs.declared.cmp.Ordering.TheVariants.{Less, Equal, Greater}
use Rattle.files_index.specs.Index.{EntryParts, Run, runs, width_of, hash_code_of, entry_bytes}
use Rattle.files_index.specs.Places.{number_in}
use Rattle.files_index.specs.Lookup.{find_bucket, entry_place, digest_in, is_below, EndsWithin, IsFirst, IsEntryOf}
use Rattle.files_index.specs.Leading.{IsAlike, StandsAmong, HasRoom, IsIndexAt, IndexLeads}
use Rattle.files_index.specs.declared.find.Bucket.{Bucket}
use Rattle.files_index.proofs.Fronts.{after_front, front_within, front_taken, number_front, entries_long, IsWidthRun, IsCodeRun, FindsRun, width_found, index_found}
use Rattle.files_index.proofs.Grouped.{each_map, each_both, each_first, each_second, each_joined, Parted, parted, each_at, Pairs, pairs_map, pairs_first, pairs_second, Up, sorted_pairs, codes_up, widths_up, digests_up, rank, ranks_up, InThree, in_three, run_parted, IsRunOf, runs_so, runs_few, runs_other}

-- ---- runs that have room

width_run : (n : ℕ) (r : Run) → IsRunOf width_of HasRoom n r → IsWidthRun r
width_run n (w, []) h = absurd (omega (arith, h.some))
width_run n (w, x ∷ xs) h =
    let it : width_of x ≡ w = h.keys.0 in
    record { low = omega (arith, it); high = omega (arith, it, h.each.0.1); some = h.some; each = h.keys }

width_runs : (es : List EntryParts) → AllByRecursion HasRoom es → AllByRecursion IsWidthRun (runs width_of es)
width_runs es room = each_map (runs width_of es) (runs_so width_of HasRoom es room) (λ r h. width_run (length es) r h)

code_run : (n : ℕ) (s : Run) → n < 2 ^ 32 → IsRunOf hash_code_of HasRoom n s → IsCodeRun s
code_run n (c, []) few h = absurd (omega (arith, h.some))
code_run n (c, x ∷ xs) few h =
    let it : hash_code_of x ≡ c = h.keys.0 in
    record {
      high = omega (arith, it, h.each.0.0);
      few = omega (arith, runs_few width_of (x ∷ xs), h.few, few);
      each = width_runs (x ∷ xs) h.each;
    }

code_runs : (es : List EntryParts) → length es < 2 ^ 32 → AllByRecursion HasRoom es → AllByRecursion IsCodeRun (runs hash_code_of es)
code_runs es few room = each_map (runs hash_code_of es) (runs_so hash_code_of HasRoom es room) (λ s h. code_run (length es) s few h)

-- ---- the entries of a bucket

module _ (b : List ℕ) (w : ℕ) (es : List EntryParts) (found : Option Bucket) (h : FindsRun b (w, es) found) (wide : AllByRecursion (λ e. width_of e ≡ w) es) where
  -- the bytes at an entry's place begin with the entry
  entry_stands : (n : ℕ) (k : Parted es n) → drop (entry_place h.bucket n) b ≡ entry_bytes k.at ++ (flat_map entry_bytes k.following ++ h.rest)
  entry_stands n k =
      let parts : flat_map entry_bytes es ≡ flat_map entry_bytes k.before ++ (entry_bytes k.at ++ flat_map entry_bytes k.following) =
      ap (flat_map entry_bytes) k.is ∙ flat_map-append entry_bytes k.before (k.at ∷ k.following) in
      let all : drop h.bucket.begin b ≡ flat_map entry_bytes k.before ++ (entry_bytes k.at ++ (flat_map entry_bytes k.following ++ h.rest)) =
      h.entries ∙ (ap (λ l. l ++ h.rest) parts ∙ (append_assoc (flat_map entry_bytes k.before) (entry_bytes k.at ++ flat_map entry_bytes k.following) h.rest
      ∙ ap (λ l. flat_map entry_bytes k.before ++ l) (append_assoc (entry_bytes k.at) (flat_map entry_bytes k.following) h.rest))) in
      let long : length (flat_map entry_bytes k.before) ≡ w * length k.before = entries_long w k.before (each_first (λ e. width_of e ≡ w) k.before (k.at ∷ k.following) (subst (AllByRecursion (λ e. width_of e ≡ w)) k.is wide)) in
      let times : n * h.bucket.width ≡ w * length k.before = ap (λ m. n * m) h.width ∙ (mul_comm n w ∙ ap (λ m. w * m) (sym k.long)) in
      after_front b (flat_map entry_bytes k.before) (entry_bytes k.at ++ (flat_map entry_bytes k.following ++ h.rest)) h.bucket.begin (n * h.bucket.width) (times ∙ sym long) all

  entry_wide : (n : ℕ) (k : Parted es n) → width_of k.at ≡ w
  entry_wide n k = each_at (λ e. width_of e ≡ w) es n k wide

  -- its digest and its offset do
  entry_digest : (n long : ℕ) (k : Parted es n) → long + 8 ≡ w → digest_in b h.bucket long n ≡ k.at.digest
  entry_digest n long k is =
      front_taken b k.at.digest (to_le_bytes w64 k.at.offset ++ (flat_map entry_bytes k.following ++ h.rest)) (entry_place h.bucket n) long (omega (arith, is, entry_wide n k))
      (entry_stands n k ∙ append_assoc k.at.digest (to_le_bytes w64 k.at.offset) (flat_map entry_bytes k.following ++ h.rest))

  entry_offset : (n long : ℕ) (k : Parted es n) → long + 8 ≡ w → k.at.offset < 2 ^ 64 → number_in w64 b (entry_place h.bucket n + long) ≡ Some k.at.offset
  entry_offset n long k is fits =
      (number_front b (flat_map entry_bytes k.following ++ h.rest) (entry_place h.bucket n + long) k.at.offset fits
      (after_front b k.at.digest (to_le_bytes w64 k.at.offset ++ (flat_map entry_bytes k.following ++ h.rest)) (entry_place h.bucket n) long (omega (arith, is, entry_wide n k))
      (entry_stands n k ∙ append_assoc k.at.digest (to_le_bytes w64 k.at.offset) (flat_map entry_bytes k.following ++ h.rest)))).0

  -- no entry ends after the bytes
  none_ends : (digest : List ℕ) → length digest + 8 ≡ w → EndsWithin b h.bucket digest → ⊥
  none_ends digest is (n, less, short) =
      let k = parted es n (omega (arith, less, h.count)) in
      let one : length (entry_bytes k.at) ≡ w = length-append k.at.digest (to_le_bytes w64 k.at.offset) ∙ entry_wide n k in
      let within : entry_place h.bucket n + (length (entry_bytes k.at) + length (flat_map entry_bytes k.following ++ h.rest)) ≡ length b = front_within b (entry_bytes k.at) (flat_map entry_bytes k.following ++ h.rest) (entry_place h.bucket n) (omega (arith, one, is)) (entry_stands n k) in
      absurd (omega (arith, within, one, is, short))

  -- the digest in the bytes of an entry is below this one, if that of the entry is
  below_so : (digest : List ℕ) (n : ℕ) (k : Parted es n) → length digest + 8 ≡ w → is_below b h.bucket digest n ≡ is_lt (slice_cmp nat_cmp k.at.digest digest)
  below_so digest n k is = ap (λ l. is_lt (slice_cmp nat_cmp l digest)) (entry_digest n (length digest) k is)

-- ---- three parts of a bucket

not_first : (o : Ordering) → 1 ≤ ordering_index o → is_lt o ≡ false
not_first Less h = absurd (omega (arith, h))
not_first Equal h = refl
not_first Greater h = refl

first_only : (o : Ordering) → ordering_index o < 1 → is_lt o ≡ true
first_only Less h = refl
first_only Equal h = absurd (omega (arith, h))
first_only Greater h = absurd (omega (arith, h))

equal_only : (o : Ordering) → ordering_index o ≡ 1 → o ≡ Equal
equal_only Less h = absurd (omega (arith, h))
equal_only Equal h = refl
equal_only Greater h = absurd (omega (arith, h))

-- an element of the second list, by its place in both together
abbrev shifted : {X : Type 0} (xs ys : List X) (n m : ℕ) → n ≡ length xs + m → Parted ys m → Parted (xs ++ ys) n
shifted xs ys n m is k = record { before = xs ++ k.before; at = k.at; following = k.following; is = ap (λ l. xs ++ l) k.is ∙ sym (append_assoc xs k.before (k.at ∷ k.following)); long = omega (arith, length-append xs k.before, k.long, is) }

abbrev lengthened : {X : Type 0} (xs ys : List X) (n : ℕ) → Parted xs n → Parted (xs ++ ys) n
lengthened xs ys n k = record { before = k.before; at = k.at; following = k.following ++ ys; is = ap (λ l. l ++ ys) k.is ∙ append_assoc k.before (k.at ∷ k.following) ys; long = k.long }

abbrev moved : {X : Type 0} (xs ys : List X) (n : ℕ) → xs ≡ ys → Parted ys n → Parted xs n
moved xs ys n same k = record { before = k.before; at = k.at; following = k.following; is = same ∙ k.is; long = k.long }

module _ (b : List ℕ) (w : ℕ) (es : List EntryParts) (found : Option Bucket) (h : FindsRun b (w, es) found) (wide : AllByRecursion (λ e. width_of e ≡ w) es) (room : AllByRecursion HasRoom es) (digest : List ℕ) (is : length digest + 8 ≡ w) (t : InThree (rank digest) 1 es) where
  -- the first entry of the digest comes after those below it
  first_there : (n : ℕ) → IsFirst b h.bucket digest n → n ≡ length t.below
  first_there n f = elim (cases_lt n (length t.below)) [
    | inl less ↦ too_low less
    | inr most ↦ elim (cases_lt (length t.below) n) [
      | inl more ↦ too_high n refl more
      | inr least ↦ omega (arith, most, least)
    ]
  ]
    where
      all : length es ≡ length t.below + length (t.there ++ t.above)
      all = ap length t.is ∙ length-append t.below (t.there ++ t.above)

      too_low : n < length t.below → n ≡ length t.below
      too_low less =
          let k = parted t.below n less in
          let at : Parted es n = moved es (t.below ++ (t.there ++ t.above)) n t.is (lengthened t.below (t.there ++ t.above) n k) in
          let low : rank digest k.at < 1 = each_at (λ e. rank digest e < 1) t.below n k t.lower in
          let clash : true ≡ false = sym (below_so b w es found h wide digest n at is ∙ first_only (slice_cmp nat_cmp k.at.digest digest) low) ∙ f.first (omega (arith, all, less, h.count)) in
          cc clash

      too_high : (m : ℕ) → n ≡ m → length t.below < m → n ≡ length t.below
      too_high zero it more = absurd (omega (arith, more))
      too_high (suc m) it more =
          let inside : m - length t.below < length (t.there ++ t.above) = omega (arith, all, more, it, f.within, h.count) in
          let k = parted (t.there ++ t.above) (m - length t.below) inside in
          let at : Parted es m = moved es (t.below ++ (t.there ++ t.above)) m t.is (shifted t.below (t.there ++ t.above) m (m - length t.below) (omega (arith, more)) k) in
          let high : 1 ≤ rank digest k.at = each_at (λ e. 1 ≤ rank digest e) (t.there ++ t.above) (m - length t.below) k
          (each_joined (λ e. 1 ≤ rank digest e) t.there t.above (each_map t.there t.same (λ e s. omega (arith, s))) (each_map t.above t.higher (λ e s. omega (arith, s)))) in
          let clash : true ≡ false = sym (f.before m it) ∙ (below_so b w es found h wide digest m at is ∙ not_first (slice_cmp nat_cmp k.at.digest digest) high) in
          cc clash

  -- the entries of the digest follow, each at its number
  entry_there : (n m : ℕ) (k : Parted t.there m) → IsFirst b h.bucket digest n → IsEntryOf b h.bucket digest (n + m) k.at.offset
  entry_there n m k f =
      let begins : n ≡ length t.below = first_there n f in
      let at : Parted es (n + m) = moved es (t.below ++ (t.there ++ t.above)) (n + m) t.is (shifted t.below (t.there ++ t.above) (n + m) m (ap (λ v. v + m) begins) (lengthened t.there t.above m k)) in
      let same : slice_cmp nat_cmp k.at.digest digest ≡ Equal = equal_only (slice_cmp nat_cmp k.at.digest digest) (each_at (λ e. rank digest e ≡ 1) t.there m k t.same) in
      let inside : m < length t.there = omega (arith, ap length k.is, length-append k.before (k.at ∷ k.following), k.long) in
      let all : length es ≡ length t.below + length (t.there ++ t.above) = ap length t.is ∙ length-append t.below (t.there ++ t.above) in
      record {
        within = omega (arith, all, length-append t.there t.above, inside, begins, h.count);
        same = entry_digest b w es found h wide (n + m) (length digest) at is ∙ exact_bytes k.at.digest digest same;
        offset = entry_offset b w es found h wide (n + m) (length digest) at is (each_at HasRoom es (n + m) at room).2;
      }

-- ---- the place of an entry among those of its multihash

-- an element of which P holds is not in a list of those of which it does not
not_among : {X : Type 0} (P : X → Type 0) (xs ys : List X) (x : X) → x ∷ xs ≡ ys → P x → AllByRecursion (λ y. P y → ⊥) ys → ⊥
not_among P xs ys x is p none = (subst (AllByRecursion (λ y. P y → ⊥)) (sym is) none).0 p

module _ {X : Type 0} (P : X → Type 0) (there above : List X) (so : AllByRecursion P there) (none : AllByRecursion (λ y. P y → ⊥) above) where
  -- after the same elements that are not so the same stand
  same_after : (x : X) (xs before below : List X) → P x → AllByRecursion (λ y. P y → ⊥) before → AllByRecursion (λ y. P y → ⊥) below → before ++ (x ∷ xs) ≡ below ++ (there ++ above) → x ∷ xs ≡ there ++ above
  same_after x xs [] [] p h k is = is
  same_after x xs [] (y ∷ ys) p h k is = let same : x ≡ y = cc is in absurd (k.0 (subst P same p))
  same_after x xs (y ∷ ys) [] p h k is = by there so is
    where
      by : (ts : List X) → AllByRecursion P ts → (y ∷ ys) ++ (x ∷ xs) ≡ ts ++ above → x ∷ xs ≡ there ++ above
      by [] s i = absurd ((each_second (λ z. P z → ⊥) ys (x ∷ xs) (subst (AllByRecursion (λ z. P z → ⊥)) (sym i) none).1).0 p)
      by (t ∷ ts) s i = let same : y ≡ t = cc i in absurd (h.0 (subst P (sym same) s.0))
  same_after x xs (y ∷ ys) (z ∷ zs) p h k is = let rest : ys ++ (x ∷ xs) ≡ zs ++ (there ++ above) = cc is in same_after x xs ys zs p h.1 k.1 rest

  -- if P holds of these elements and the next, they are the first of those of which it holds
  first_among : (same ts following : List X) (x : X) → P x → AllByRecursion P same → same ++ (x ∷ following) ≡ ts ++ above → AllByRecursion P ts → (more : List X) × (ts ≡ same ++ (x ∷ more))
  first_among [] [] following x p h is s = absurd (not_among P following above x is p none)
  first_among [] (t ∷ ts) following x p h is s = let it : x ≡ t = cc is in (ts, ap (λ v. v ∷ ts) (sym it))
  first_among (y ∷ ys) [] following x p h is s = absurd (not_among P (ys ++ (x ∷ following)) above y is h.0 none)
  first_among (y ∷ ys) (t ∷ ts) following x p h is s =
      let it : y ≡ t = cc is in
      let rest : ys ++ (x ∷ following) ≡ ts ++ above = cc is in
      let k = first_among ys ts following x p h.1 rest s.1 in
      (k.0, ap (λ v. v ∷ ts) (sym it) ∙ ap (λ l. y ∷ l) k.1)

-- ---- the whole

module _ (b : List ℕ) (index : ℕ) (es : List EntryParts) (e : EntryParts) (k : ℕ) (at : IsIndexAt b index es) (a : StandsAmong es e k) where
  up : Pairs Up es
  up = sorted_pairs es at.sorted

  -- by hash code
  code : InThree hash_code_of e.hash_code es
  code = in_three hash_code_of e.hash_code es (pairs_map Up (λ x y. x.hash_code ≤ y.hash_code) (λ x. ⊤) es (all_of es) up (λ x y _ _ u. codes_up x y u))
    where
      all_of : (xs : List EntryParts) → AllByRecursion (λ x. ⊤) xs
      all_of [] = tt
      all_of (x ∷ xs) = (tt, all_of xs)

  code_up : Pairs Up code.there
  code_up = pairs_first Up code.there code.above (pairs_second Up code.below (code.there ++ code.above) (subst (Pairs Up) code.is up))

  code_room : AllByRecursion HasRoom code.there
  code_room = each_first HasRoom code.there code.above (each_second HasRoom code.below (code.there ++ code.above) (subst (AllByRecursion HasRoom) code.is at.room))

  -- by width
  width : InThree width_of (width_of e) code.there
  width = in_three width_of (width_of e) code.there (pairs_map Up (λ x y. width_of x ≤ width_of y) (λ x. x.hash_code ≡ e.hash_code) code.there code.same code_up (λ x y p q u. widths_up x y (p ∙ sym q) u))

  width_up : Pairs Up width.there
  width_up = pairs_first Up width.there width.above (pairs_second Up width.below (width.there ++ width.above) (subst (Pairs Up) width.is code_up))

  width_room : AllByRecursion HasRoom width.there
  width_room = each_first HasRoom width.there width.above (each_second HasRoom width.below (width.there ++ width.above) (subst (AllByRecursion HasRoom) width.is code_room))

  width_code : AllByRecursion (λ x. x.hash_code ≡ e.hash_code) width.there
  width_code = each_first (λ x. x.hash_code ≡ e.hash_code) width.there width.above (each_second (λ x. x.hash_code ≡ e.hash_code) width.below (width.there ++ width.above) (subst (AllByRecursion (λ x. x.hash_code ≡ e.hash_code)) width.is code.same))

  -- by digest
  digest : InThree (rank e.digest) 1 width.there
  digest = in_three (rank e.digest) 1 width.there (pairs_map Up (λ x y. rank e.digest x ≤ rank e.digest y) (λ x. (x.hash_code ≡ e.hash_code) × (width_of x ≡ width_of e)) width.there (each_both width.there width_code width.same (λ x p q. (p, q))) width_up
      (λ x y p q u. ranks_up e.digest x y (digests_up x y (p.0 ∙ sym q.0) (omega (arith, p.1, q.1)) u)))

  abbrev beneath : List EntryParts
  beneath = code.below ++ (width.below ++ digest.below)

  abbrev beyond : List EntryParts
  beyond = digest.above ++ (width.above ++ code.above)

  parts : es ≡ beneath ++ (digest.there ++ beyond)
  parts =
      let inner : code.there ≡ width.below ++ ((digest.below ++ (digest.there ++ digest.above)) ++ width.above) = width.is ∙ ap (λ l. width.below ++ (l ++ width.above)) digest.is in
      regroup code.below width.below digest.below digest.there digest.above width.above code.above es code.there code.is inner
    where
      regroup : (p q r t u v w all mid : List EntryParts) → all ≡ p ++ (mid ++ w) → mid ≡ q ++ ((r ++ (t ++ u)) ++ v) → all ≡ (p ++ (q ++ r)) ++ (t ++ (u ++ (v ++ w)))
      regroup p q r t u v w all mid is inner = is ∙ (ap (λ l. p ++ (l ++ w)) inner ∙ simp append_assoc)

  alike_there : AllByRecursion (λ d. IsAlike d e) digest.there
  alike_there = each_both digest.there (each_first (λ x. x.hash_code ≡ e.hash_code) digest.there digest.above (each_second (λ x. x.hash_code ≡ e.hash_code) digest.below (digest.there ++ digest.above) (subst (AllByRecursion (λ x. x.hash_code ≡ e.hash_code)) digest.is width_code))) digest.same
      (λ x p q. (p, exact_bytes x.digest e.digest (equal_only (slice_cmp nat_cmp x.digest e.digest) q)))

  rank_one : (x : EntryParts) → x.digest ≡ e.digest → rank e.digest x ≡ 1
  rank_one x same = ap ordering_index (ap (λ l. slice_cmp nat_cmp l e.digest) same ∙ same_equal nat_list_cmp_total e.digest)

  none_beneath : AllByRecursion (λ d. IsAlike d e → ⊥) beneath
  none_beneath = each_joined (λ d. IsAlike d e → ⊥) code.below (width.below ++ digest.below) (each_map code.below code.lower (λ x h s. absurd (omega (arith, h, s.0))))
      (each_joined (λ d. IsAlike d e → ⊥) width.below digest.below (each_map width.below width.lower (λ x h s. absurd (omega (arith, h, ap length s.1)))) (each_map digest.below digest.lower (λ x h s. absurd (omega (arith, h, rank_one x s.1)))))

  none_beyond : AllByRecursion (λ d. IsAlike d e → ⊥) beyond
  none_beyond = each_joined (λ d. IsAlike d e → ⊥) digest.above (width.above ++ code.above) (each_map digest.above digest.higher (λ x h s. absurd (omega (arith, h, rank_one x s.1))))
      (each_joined (λ d. IsAlike d e → ⊥) width.above code.above (each_map width.above width.higher (λ x h s. absurd (omega (arith, h, ap length s.1)))) (each_map code.above code.higher (λ x h s. absurd (omega (arith, h, s.0)))))

  -- those of its multihash begin with those before it, and it
  among : (more : List EntryParts) × (digest.there ≡ a.same ++ (e ∷ more))
  among = first_among (λ d. IsAlike d e) digest.there beyond alike_there none_beyond a.same digest.there a.following e (refl, refl) a.alike (by a.same a.alike (sym a.is ∙ parts)) alike_there
    where
      by : (same : List EntryParts) → AllByRecursion (λ d. IsAlike d e) same → a.before ++ (same ++ (e ∷ a.following)) ≡ beneath ++ (digest.there ++ beyond) → same ++ (e ∷ a.following) ≡ digest.there ++ beyond
      by [] alike is = same_after (λ d. IsAlike d e) digest.there beyond alike_there none_beyond e a.following a.before beneath (refl, refl) a.others none_beneath is
      by (x ∷ xs) alike is = same_after (λ d. IsAlike d e) digest.there beyond alike_there none_beyond x (xs ++ (e ∷ a.following)) a.before beneath alike.0 a.others none_beneath is

  some_digest : 0 < length digest.there
  some_digest = omega (arith, ap length among.1, length-append a.same (e ∷ among.0))

  some_width : 0 < length width.there
  some_width = omega (arith, some_digest, ap length digest.is, length-append digest.below (digest.there ++ digest.above), length-append digest.there digest.above)

  some_code : 0 < length code.there
  some_code = omega (arith, some_width, ap length width.is, length-append width.below (width.there ++ width.above), length-append width.there width.above)

  split_so : (key : EntryParts → ℕ) (n : ℕ) (xs : List EntryParts) (t : InThree key n xs) → 0 < length t.there → runs key xs ≡ runs key t.below ++ ((n, t.there) ∷ runs key t.above)
  split_so key n xs t some = ap (runs key) t.is ∙ by t.there some t.same
    where
      by : (there : List EntryParts) → 0 < length there → AllByRecursion (λ x. key x ≡ n) there → runs key (t.below ++ (there ++ t.above)) ≡ runs key t.below ++ ((n, there) ∷ runs key t.above)
      by [] h same = absurd (omega (arith, h))
      by (x ∷ xs) h same = run_parted key n t.below x xs t.above (each_map t.below t.lower (λ y l i. absurd (omega (arith, l, i)))) same (each_map t.above t.higher (λ y l i. absurd (omega (arith, l, i))))

  none_of : (key : EntryParts → ℕ) (n : ℕ) (xs : List EntryParts) (t : InThree key n xs) → AllByRecursion (λ (r : Run). r.0 ≡ n → ⊥) (runs key t.below)
  none_of key n xs t = runs_other key n t.below (each_map t.below t.lower (λ y l i. absurd (omega (arith, l, i))))

  few_codes : length code.there < 2 ^ 32
  few_codes = omega (arith, at.few, ap length code.is, length-append code.below (code.there ++ code.above), length-append code.there code.above)

  finds : FindsRun b (width_of e, width.there) (find_bucket b index e.hash_code e.digest)
  finds = index_found b at.more index e.hash_code e.digest es (runs hash_code_of code.below) (e.hash_code, code.there) (runs hash_code_of code.above) (width_of e, width.there) at.fits (omega (arith, runs_few hash_code_of es, at.few)) (code_runs es at.few at.room)
      (split_so hash_code_of e.hash_code es code some_code) (none_of hash_code_of e.hash_code es code) refl
      (λ q more d. width_found b more (width_of e) q code.there (runs width_of width.below) (width_of e, width.there) (runs width_of width.above) at.fits (omega (arith, runs_few width_of code.there, few_codes)) (width_runs code.there code_room)
      (split_so width_of (width_of e) code.there width some_width) (none_of width_of (width_of e) code.there width) refl d)
      at.there

  leads_so : (bucket : Bucket) × (find_bucket b index e.hash_code e.digest ≡ Some bucket) × (EndsWithin b bucket e.digest → ⊥)
      × (bucket.count ≤ length es)
      × ((n : ℕ) → IsFirst b bucket e.digest n → IsEntryOf b bucket e.digest (n + k) e.offset
      × ((m : ℕ) → m < k → (place : ℕ) × IsEntryOf b bucket e.digest (n + m) place))
  leads_so = (
    finds.bucket,
    finds.is,
    none_ends b (width_of e) width.there (find_bucket b index e.hash_code e.digest) finds width.same e.digest refl,
    omega (arith, finds.count, ap length code.is, ap length width.is, length-append code.below (code.there ++ code.above), length-append code.there code.above, length-append width.below (width.there ++ width.above), length-append width.there width.above),
    λ n f.
        let this : Parted digest.there k = record { before = a.same; at = e; following = among.0; is = among.1; long = sym a.count } in (
          entry_there b (width_of e) width.there (find_bucket b index e.hash_code e.digest) finds width.same width_room e.digest refl digest n k this f,
          λ m less.
              let other = parted digest.there m (omega (arith, less, a.count, ap length among.1, length-append a.same (e ∷ among.0))) in
              (other.at.offset, entry_there b (width_of e) width.there (find_bucket b index e.hash_code e.digest) finds width.same width_room e.digest refl digest n m other f),
        ),
  )

pub leads : IndexLeads
leads b index es e k at a = leads_so b index es e k at a
