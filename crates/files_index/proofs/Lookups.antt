-- Look-ups in an index.
use Rattle.std.proofs.Common.{◌≡◌, ℕ, suc, ◌+◌, ◌-◌, ◌^◌, ◌<◌, ◌≤◌, min, true, false, cond, List, length, take, drop, Option, None, Some, option_and_then, IfSome, Result, Ok, Err, IfOk, ◌==◌, sym, ap, ◌∙◌, subst, refl, inl, inr, arith}
use Rattle.std.proofs.lemmas.Bool.{lt-ltb, le-ltb, cases_lt, eq-eqb, ne_eqb}
use Rattle.std.specs.Int.{Width, w32, w64, byte_len, from_le_bytes}
use Rattle.std.specs.Ordering.{nat_cmp, ordering_reverse}
use Rattle.std.specs.declared.cmp.Ordering.{Ordering}
use Rattle.std.specs.declared.cmp.Ordering.TheVariants.{Less, Equal, Greater}
use Rattle.std.specs.Cmp.{IsTotalOrder}
use Rattle.std.specs.Cmp.Lexicographic.{slice_cmp}
use Rattle.std.proofs.lemmas.Cmp.{nat_list_cmp_total}
use Rattle.std.proofs.lemmas.Map.Lookups.{exact_bytes}
use Rattle.files_index.specs.Places.{number_in}
use Rattle.files_index.specs.Lookup.{bucket_of, bucket_at, bucket_from, bucket_in, after_heads, after_buckets, bucket_under_from, is_below, entry_place, digest_in, IsFirst, IsEntryOf, FindsOffset}
use Rattle.files_index.specs.declared.find.Bucket.{Bucket}

-- ---- numbers

pub number_none : (w : Width) (b : List ℕ) (place : ℕ) → length b < place + byte_len w → number_in w b place ≡ None
number_none w b place short = ap (λ v. cond v None (Some (from_le_bytes w (take (byte_len w) (drop place b))))) (lt-ltb (length b) (place + byte_len w) short)

pub number_some : (w : Width) (b : List ℕ) (place : ℕ) → place + byte_len w ≤ length b → number_in w b place ≡ Some (from_le_bytes w (take (byte_len w) (drop place b)))
number_some w b place there = ap (λ v. cond v None (Some (from_le_bytes w (take (byte_len w) (drop place b))))) (le-ltb (length b) (place + byte_len w) there)

-- a number that is found ends within the bytes
pub number_there : (w : Width) (b : List ℕ) (place n : ℕ) → Some n ≡ number_in w b place → place + byte_len w ≤ length b
number_there w b place n is = elim (cases_lt (length b) (place + byte_len w)) [
  | inl short ↦ let clash : Some n ≡ None = is ∙ number_none w b place short in cc clash
  | inr there ↦ there
]

-- the place is the last that can be named, or before it
pub number_capped : (w : Width) (b : List ℕ) (place next : ℕ) → length b < 2 ^ 64 → next ≡ min place (2 ^ 64 - 1) → 0 < byte_len w → number_in w b next ≡ number_in w b place
number_capped w b place next below is some = elim (cases_lt place (2 ^ 64)) [
  | inl named ↦ let same : next ≡ place = omega arith in ap (number_in w b) same
  | inr far ↦ number_none w b next (omega arith) ∙ sym (number_none w b place (omega arith))
]

-- ---- heads

pub bucket_there : (known : Option (List ℕ)) (place second begin width long : ℕ) (result : Option (Bucket × ℕ)) → IfSome known (λ b. Some width ≡ number_in w32 b place) → second ≡ min (place + 4) (2 ^ 64 - 1) → IfSome known (λ b. Some long ≡ number_in w64 b second) → begin ≡ min (place + 12) (2 ^ 64 - 1) → result ≡ bucket_of begin width long → IfSome known (λ b. length b < 2 ^ 64 → result ≡ bucket_at b place)
bucket_there None place second begin width long result first is following start gives = tt
bucket_there (Some b) place second begin width long result first is following start gives = λ below.
    let there : place + 4 ≤ length b = number_there w32 b place width first in
    let far : second + 8 ≤ length b = number_there w64 b second long following in
    let here : begin ≡ place + 12 = omega arith in
    let length_there : Some long ≡ number_in w64 b (place + 4) = following ∙ number_capped w64 b (place + 4) second below is (omega arith) in
    gives ∙ (ap (λ p. bucket_of p width long) here ∙ (ap (option_and_then (bucket_of (place + 12) width)) length_there
    ∙ ap (option_and_then (λ w. option_and_then (bucket_of (place + 12) w) (number_in w64 b (place + 4)))) first))

-- ---- of known bytes

pub some_known : {P Q : List ℕ → Type 0} (known : Option (List ℕ)) → IfSome known P → ((b : List ℕ) → P b → Q b) → IfSome known Q
some_known None h f = tt
some_known (Some b) h f = f b h

pub both_known : {P Q R : List ℕ → Type 0} (known : Option (List ℕ)) → IfSome known P → IfSome known Q → ((b : List ℕ) → P b → Q b → R b) → IfSome known R
both_known None h k f = tt
both_known (Some b) h k f = f b h k

pub three_known : {P Q R T : List ℕ → Type 0} (known : Option (List ℕ)) → IfSome known P → IfSome known Q → IfSome known R → ((b : List ℕ) → P b → Q b → R b → T b) → IfSome known T
three_known None h k l f = tt
three_known (Some b) h k l f = f b h k l

pub ok_map : {A E : Type 0} {P Q : A → Type 0} (r : Result A E) → IfOk r P → ((a : A) → P a → Q a) → IfOk r Q
ok_map (Ok a) h f = f a h
ok_map (Err e) h f = tt

-- ---- one head after the other

pub after_more : (b : List ℕ) (count i next following : ℕ) (bucket : Bucket) (whole : Option ℕ) → i < count → after_heads b (count - i) next ≡ whole → Some (bucket, following) ≡ bucket_at b next → after_heads b (count - (i + 1)) following ≡ whole
after_more b count i next following bucket whole more was is =
    let one : count - i ≡ suc (count - (i + 1)) = omega arith in
    ap (option_and_then (λ (f : Bucket × ℕ). after_heads b (count - (i + 1)) f.1)) is ∙ (sym (ap (λ n. after_heads b n next) one) ∙ was)

pub after_ends : (b : List ℕ) (count i next : ℕ) (whole : Option ℕ) → i < count → after_heads b (count - i) next ≡ whole → None ≡ bucket_at b next → None ≡ whole
after_ends b count i next whole more was is =
    let one : count - i ≡ suc (count - (i + 1)) = omega arith in
    ap (option_and_then (λ (f : Bucket × ℕ). after_heads b (count - (i + 1)) f.1)) is ∙ (sym (ap (λ n. after_heads b n next) one) ∙ was)

module _ (b : List ℕ) (width : ℕ) where
  next_in : (count i next : ℕ) (whole : Option Bucket) (found : Option (Bucket × ℕ)) → i < count → bucket_from b width (count - i) next ≡ whole → found ≡ bucket_at b next → option_and_then (λ (f : Bucket × ℕ). cond (f.0.width == width) (Some f.0) (bucket_from b width (count - (i + 1)) f.1)) found ≡ whole
  next_in count i next whole found more was is =
      let one : count - i ≡ suc (count - (i + 1)) = omega arith in
      ap (option_and_then (λ (f : Bucket × ℕ). cond (f.0.width == width) (Some f.0) (bucket_from b width (count - (i + 1)) f.1))) is ∙ (sym (ap (λ n. bucket_from b width n next) one) ∙ was)

  pub in_found : (count i next following : ℕ) (bucket : Bucket) (whole : Option Bucket) → i < count → bucket_from b width (count - i) next ≡ whole → Some (bucket, following) ≡ bucket_at b next → bucket.width ≡ width → Some bucket ≡ whole
  in_found count i next following bucket whole more was is same =
      sym (ap (λ v. cond v (Some bucket) (bucket_from b width (count - (i + 1)) following)) (eq-eqb bucket.width width same)) ∙ next_in count i next whole (Some (bucket, following)) more was is

  pub in_more : (count i next following : ℕ) (bucket : Bucket) (whole : Option Bucket) → i < count → bucket_from b width (count - i) next ≡ whole → Some (bucket, following) ≡ bucket_at b next → (bucket.width ≡ width → ⊥) → bucket_from b width (count - (i + 1)) following ≡ whole
  in_more count i next following bucket whole more was is other =
      sym (ap (λ v. cond v (Some bucket) (bucket_from b width (count - (i + 1)) following)) (ne_eqb bucket.width width other)) ∙ next_in count i next whole (Some (bucket, following)) more was is

  pub in_ends : (count i next : ℕ) (whole : Option Bucket) → i < count → bucket_from b width (count - i) next ≡ whole → None ≡ bucket_at b next → None ≡ whole
  in_ends count i next whole more was is = next_in count i next whole None more was is

  module _ (code : ℕ) where
    next_under : (count i next : ℕ) (whole : Option Bucket) (found : Option ℕ) → i < count → bucket_under_from b code width (count - i) next ≡ whole → found ≡ number_in w64 b next → option_and_then (λ c. cond (c == code) (bucket_in b width (next + 8)) (option_and_then (bucket_under_from b code width (count - (i + 1))) (after_buckets b (next + 8)))) found ≡ whole
    next_under count i next whole found more was is =
        let one : count - i ≡ suc (count - (i + 1)) = omega arith in
        ap (option_and_then (λ c. cond (c == code) (bucket_in b width (next + 8)) (option_and_then (bucket_under_from b code width (count - (i + 1))) (after_buckets b (next + 8))))) is ∙ (sym (ap (λ n. bucket_under_from b code width n next) one) ∙ was)

    -- the place after the code
    after_code : (next buckets c : ℕ) → length b < 2 ^ 64 → Some c ≡ number_in w64 b next → buckets ≡ min (next + 8) (2 ^ 64 - 1) → buckets ≡ next + 8
    after_code next buckets c below is at =
        let there : next + 8 ≤ length b = number_there w64 b next c is in omega arith

    pub under_ends : (count i next : ℕ) (whole : Option Bucket) → i < count → bucket_under_from b code width (count - i) next ≡ whole → None ≡ number_in w64 b next → None ≡ whole
    under_ends count i next whole more was is = next_under count i next whole None more was is

    pub under_found : (count i next buckets c : ℕ) (result whole : Option Bucket) → length b < 2 ^ 64 → i < count → bucket_under_from b code width (count - i) next ≡ whole → Some c ≡ number_in w64 b next → buckets ≡ min (next + 8) (2 ^ 64 - 1) → c ≡ code → result ≡ bucket_in b width buckets → result ≡ whole
    under_found count i next buckets c result whole below more was is at same gives =
        (gives ∙ ap (bucket_in b width) (after_code next buckets c below is at)) ∙ (sym (ap (λ v. cond v (bucket_in b width (next + 8)) (option_and_then (bucket_under_from b code width (count - (i + 1))) (after_buckets b (next + 8)))) (eq-eqb c code same)) ∙ next_under count i next whole (Some c) more was is)

    passed : (count i next buckets c : ℕ) (whole : Option Bucket) (following : Option ℕ) → length b < 2 ^ 64 → i < count → bucket_under_from b code width (count - i) next ≡ whole → Some c ≡ number_in w64 b next → buckets ≡ min (next + 8) (2 ^ 64 - 1) → (c ≡ code → ⊥) → following ≡ after_buckets b buckets → option_and_then (bucket_under_from b code width (count - (i + 1))) following ≡ whole
    passed count i next buckets c whole following below more was is at other gives =
        ap (option_and_then (bucket_under_from b code width (count - (i + 1)))) (gives ∙ ap (after_buckets b) (after_code next buckets c below is at)) ∙ (sym (ap (λ v. cond v (bucket_in b width (next + 8)) (option_and_then (bucket_under_from b code width (count - (i + 1))) (after_buckets b (next + 8)))) (ne_eqb c code other)) ∙ next_under count i next whole (Some c) more was is)

    pub under_more : (count i next buckets c following : ℕ) (whole : Option Bucket) → length b < 2 ^ 64 → i < count → bucket_under_from b code width (count - i) next ≡ whole → Some c ≡ number_in w64 b next → buckets ≡ min (next + 8) (2 ^ 64 - 1) → (c ≡ code → ⊥) → Some following ≡ after_buckets b buckets → bucket_under_from b code width (count - (i + 1)) following ≡ whole
    under_more count i next buckets c following whole below more was is at other gives = passed count i next buckets c whole (Some following) below more was is at other gives

    pub under_stops : (count i next buckets c : ℕ) (whole : Option Bucket) → length b < 2 ^ 64 → i < count → bucket_under_from b code width (count - i) next ≡ whole → Some c ≡ number_in w64 b next → buckets ≡ min (next + 8) (2 ^ 64 - 1) → (c ≡ code → ⊥) → None ≡ after_buckets b buckets → None ≡ whole
    under_stops count i next buckets c whole below more was is at other gives = passed count i next buckets c whole None below more was is at other gives

-- ---- an entry

equal_reversed : (o : Ordering) → o ≡ ordering_reverse o → o ≡ Equal
equal_reversed Less is = cc is
equal_reversed Equal is = refl
equal_reversed Greater is = cc is

pub same_equal : {K : Type 0} {R : K → K → Ordering} → IsTotalOrder R → (x : K) → R x x ≡ Equal
same_equal {K} {R} o x = equal_reversed (R x x) (o.antisymm x x)

-- entries before the first place are below the digest, and from the second on they are not
pub record Narrows (b : List ℕ) (bucket : Bucket) (digest : List ℕ) (low high : ℕ) : Type 0 where
  pub before : (m : ℕ) → low ≡ suc m → is_below b bucket digest m ≡ true
  pub first : high < bucket.count → is_below b bucket digest high ≡ false

-- the first place is found
pub narrowed : (known : Option (List ℕ)) (bucket : Bucket) (digest : List ℕ) (low high : ℕ) → high ≤ low → low ≤ high → high ≤ bucket.count → IfSome known (λ b. length b < 2 ^ 64 → Narrows b bucket digest low high) → IfSome known (λ b. length b < 2 ^ 64 → IsFirst b bucket digest low)
narrowed None bucket digest low high met up within h = tt
narrowed (Some b) bucket digest low high met up within h = λ below.
    let same : high ≡ low = omega arith in
    record {
      within = omega arith;
      before = (h below).before;
      first = subst (λ n. n < bucket.count → is_below b bucket digest n ≡ false) same (h below).first;
    }

-- the bytes end within the digest
pub short_entry : (b digest : List ℕ) (bucket : Bucket) (n place : ℕ) → length b < entry_place bucket n + length digest → IsEntryOf b bucket digest n place → ⊥
short_entry b digest bucket n place short e =
    let there : (entry_place bucket n + length digest) + 8 ≤ length b = number_there w64 b (entry_place bucket n + length digest) place (sym e.offset) in
    absurd (omega arith)

-- the entry is of another digest
pub other_entry : (b digest : List ℕ) (bucket : Bucket) (n place : ℕ) (o : Ordering) → o ≡ slice_cmp nat_cmp (digest_in b bucket (length digest) n) digest → (o ≡ Equal → ⊥) → IsEntryOf b bucket digest n place → ⊥
other_entry b digest bucket n place o is other e =
    other (is ∙ (ap (λ l. slice_cmp nat_cmp l digest) e.same ∙ same_equal nat_list_cmp_total digest))

-- the entry is one of the digest, and its offset is read
pub right_entry : (known : Option (List ℕ)) (digest : List ℕ) (bucket : Bucket) (n from place : ℕ) (o : Ordering) (E : Type 0) (result : Result (Option ℕ) E) → n < bucket.count → IfSome known (λ b. length b < 2 ^ 64 → o ≡ slice_cmp nat_cmp (digest_in b bucket (length digest) n) digest) → o ≡ Equal → from ≡ min (entry_place bucket n) (2 ^ 64 - 1) → place ≡ min (from + length digest) (2 ^ 64 - 1) → IfSome known (λ b. IfOk result (λ found. found ≡ number_in w64 b place)) → IfSome known (λ b. length b < 2 ^ 64 → IfOk result (FindsOffset bucket digest n b))
right_entry None digest bucket n from place o E result within is same at following gives = tt
right_entry (Some b) digest bucket n from place o E result within is same at following gives = λ below.
    let there : place ≡ min (entry_place bucket n + length digest) (2 ^ 64 - 1) = omega arith in
    let read : number_in w64 b place ≡ number_in w64 b (entry_place bucket n + length digest) = number_capped w64 b (entry_place bucket n + length digest) place below there (omega arith) in
    ok_map result gives (λ (found : Option ℕ) h. by found (h ∙ read) (exact_bytes _ _ (sym (is below) ∙ same)))
  where
    by : (found : Option ℕ) → found ≡ number_in w64 b (entry_place bucket n + length digest) → digest_in b bucket (length digest) n ≡ digest → FindsOffset bucket digest n b found
    by None h it = λ short offset e. let clash : None ≡ Some offset = h ∙ e.offset in cc clash
    by (Some offset) h it = record { within = within; same = it; offset = sym h }
