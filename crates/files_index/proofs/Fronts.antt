-- The parts at a place of an index.
use Rattle.std.proofs.Common.{◌≡◌, ℕ, ◌+◌, ◌*◌, ◌/◌, ◌^◌, ◌<◌, ◌≤◌, ◌==◌, ◌&&◌, ltb, cond, List, [], ◌∷◌, ◌++◌, length, take, drop, Option, None, Some, option_and_then, sym, ap, ◌∙◌, subst, refl, arith, append_assoc, flat_map, length-append}
use Rattle.std.proofs.lemmas.Bool.{lt-ltb, le-leb, eq-eqb, ne_eqb}
use Rattle.std.proofs.lemmas.List.{drop-drop, length-drop}
use Rattle.std.proofs.Math.Seq.{drop-append_seam, take-append_seam}
use Rattle.std.proofs.Math.Nat.{mul-div_cancel_left}
use Rattle.std.proofs.lemmas.Nat.{from_le_bytes-to_le_bytes_4, from_le_bytes-to_le_bytes_8}
use Rattle.std.specs.List.{AllByRecursion}
use Rattle.std.specs.Int.{w16, w32, w64, to_le_bytes, from_le_bytes}
use Rattle.files_index.specs.Index.{EntryParts, Run, width_of, hash_code_of, runs, entry_bytes, bucket_bytes, buckets_bytes, code_bytes, codes_bytes, index_bytes}
use Rattle.files_index.specs.Places.{number_in}
use Rattle.files_index.specs.Lookup.{bucket_of, bucket_at, bucket_from, bucket_in, after_heads, after_buckets, bucket_under_from, bucket_under, find_bucket}
use Rattle.files_index.specs.declared.find.Bucket.{Bucket}
use Rattle.files_index.proofs.Lookups.{number_some}

-- ---- bytes at a place

-- the bytes after the first of those at a place
pub after_front : (b xs rest : List ℕ) (p n : ℕ) → n ≡ length xs → drop p b ≡ xs ++ rest → drop (p + n) b ≡ rest
after_front b xs rest p n long is =
    sym (drop-drop n p b) ∙ (ap (drop n) is ∙ (ap (λ m. drop m (xs ++ rest)) long ∙ drop-append_seam xs rest))

-- the bytes from a place on are as many as the parts have
pub front_within : (b xs rest : List ℕ) (p : ℕ) → 0 < length xs → drop p b ≡ xs ++ rest → p + (length xs + length rest) ≡ length b
front_within b xs rest p some is =
    let whole : length (drop p b) ≡ length (xs ++ rest) = ap length is in
    omega (arith, whole, length-drop p b, length-append xs rest)

pub front_taken : (b xs rest : List ℕ) (p n : ℕ) → n ≡ length xs → drop p b ≡ xs ++ rest → take n (drop p b) ≡ xs
front_taken b xs rest p n long is = ap (take n) is ∙ (ap (λ m. take m (xs ++ rest)) long ∙ take-append_seam xs rest)

pub count_front : (b rest : List ℕ) (p n : ℕ) → n < 2 ^ 32 → drop p b ≡ to_le_bytes w32 n ++ rest → (number_in w32 b p ≡ Some n) × (drop (p + 4) b ≡ rest)
count_front b rest p n fits is =
    let within : p + (length (to_le_bytes w32 n) + length rest) ≡ length b = front_within b (to_le_bytes w32 n) rest p (omega arith) is in
    let there : p + 4 ≤ length b = omega (arith, within) in (
      number_some w32 b p there ∙ ap Some (ap (from_le_bytes w32) (front_taken b (to_le_bytes w32 n) rest p 4 refl is) ∙ from_le_bytes-to_le_bytes_4 n fits),
      after_front b (to_le_bytes w32 n) rest p 4 refl is,
    )

pub number_front : (b rest : List ℕ) (p n : ℕ) → n < 2 ^ 64 → drop p b ≡ to_le_bytes w64 n ++ rest → (number_in w64 b p ≡ Some n) × (drop (p + 8) b ≡ rest)
number_front b rest p n fits is =
    let within : p + (length (to_le_bytes w64 n) + length rest) ≡ length b = front_within b (to_le_bytes w64 n) rest p (omega arith) is in
    let there : p + 8 ≤ length b = omega (arith, within) in (
      number_some w64 b p there ∙ ap Some (ap (from_le_bytes w64) (front_taken b (to_le_bytes w64 n) rest p 8 refl is) ∙ from_le_bytes-to_le_bytes_8 n fits),
      after_front b (to_le_bytes w64 n) rest p 8 refl is,
    )

-- ---- the entries of one width

-- entries of one width, which has room
pub record IsWidthRun (r : Run) : Type 0 where
  pub low : 8 ≤ r.0
  pub high : r.0 < 2 ^ 32
  pub some : 0 < length r.1
  pub each : AllByRecursion (λ e. width_of e ≡ r.0) r.1

entry_long : (e : EntryParts) → length (entry_bytes e) ≡ width_of e
entry_long e = length-append e.digest (to_le_bytes w64 e.offset)

pub entries_long : (w : ℕ) (es : List EntryParts) → AllByRecursion (λ e. width_of e ≡ w) es → length (flat_map entry_bytes es) ≡ w * length es
entries_long w [] h = omega arith
entries_long w (e ∷ es) h =
    let one : length (entry_bytes e) ≡ w = entry_long e ∙ h.0 in
    let rest : length (flat_map entry_bytes es) ≡ w * length es = entries_long w es h.1 in
    omega (arith, one, rest, length-append (entry_bytes e) (flat_map entry_bytes es))

abbrev pub bucket_there : ℕ → Run → Bucket
bucket_there p r = record { begin = p + 12; width = r.0; count = length r.1 }

-- the head of a run, its entries, and the bytes after them
pub record IsRunAt (b rest : List ℕ) (p : ℕ) (r : Run) : Type 0 where
  pub head : bucket_at b p ≡ Some (bucket_there p r, (p + 12) + r.0 * length r.1)
  pub entries : drop (p + 12) b ≡ flat_map entry_bytes r.1 ++ rest
  pub following : drop ((p + 12) + r.0 * length r.1) b ≡ rest

pub run_front : (b rest : List ℕ) (p : ℕ) (r : Run) → length b < 2 ^ 64 → IsWidthRun r → drop p b ≡ bucket_bytes r ++ rest → IsRunAt b rest p r
run_front b rest p r fits run is =
    let long : length (flat_map entry_bytes r.1) ≡ r.0 * length r.1 = entries_long r.0 r.1 run.each in
    let split : drop p b ≡ to_le_bytes w32 r.0 ++ (to_le_bytes w64 (r.0 * length r.1) ++ (flat_map entry_bytes r.1 ++ rest)) =
    is ∙ (append_assoc (to_le_bytes w32 r.0) (to_le_bytes w64 (r.0 * length r.1) ++ flat_map entry_bytes r.1) rest
    ∙ ap (λ l. to_le_bytes w32 r.0 ++ l) (append_assoc (to_le_bytes w64 (r.0 * length r.1)) (flat_map entry_bytes r.1) rest)) in
    let first = count_front b (to_le_bytes w64 (r.0 * length r.1) ++ (flat_map entry_bytes r.1 ++ rest)) p r.0 run.high split in
    let within : (p + 4) + (length (to_le_bytes w64 (r.0 * length r.1)) + length (flat_map entry_bytes r.1 ++ rest)) ≡ length b = front_within b (to_le_bytes w64 (r.0 * length r.1)) (flat_map entry_bytes r.1 ++ rest) (p + 4) (omega arith) first.1 in
    let all : length (flat_map entry_bytes r.1 ++ rest) ≡ length (flat_map entry_bytes r.1) + length rest = length-append (flat_map entry_bytes r.1) rest in
    let second = number_front b (flat_map entry_bytes r.1 ++ rest) (p + 4) (r.0 * length r.1) (omega (arith, within, all, long)) first.1 in
    let entries : drop (p + 12) b ≡ flat_map entry_bytes r.1 ++ rest = ap (λ n. drop n b) (omega arith) ∙ second.1 in
    let ends : (p + 12) + r.0 * length r.1 < 2 ^ 64 = omega (arith, within, all, long) in
    let count : (r.0 * length r.1) / r.0 ≡ length r.1 = mul-div_cancel_left (length r.1) (omega (arith, run.low)) in
    record {
      head = ap (option_and_then (λ width. option_and_then (bucket_of (p + 12) width) (number_in w64 b (p + 4)))) first.0
          ∙ (ap (option_and_then (bucket_of (p + 12) r.0)) second.0 ∙ made (p + 12) r.0 (r.0 * length r.1) (length r.1) run.low ends count);
      entries = entries;
      following = after_front b (flat_map entry_bytes r.1) rest (p + 12) (r.0 * length r.1) (sym long) entries;
    }
  where
    made : (begin width long count : ℕ) → 8 ≤ width → begin + long < 2 ^ 64 → long / width ≡ count → bucket_of begin width long ≡ Some (record { begin = begin; width = width; count = count }, begin + long)
    made begin width long count low ends is =
        ap (λ v. cond (v && ltb (begin + long) (2 ^ 64)) (Some (record { begin = begin; width = width; count = long / width }, begin + long)) None) (le-leb 8 width low)
        ∙ (ap (λ v. cond v (Some (record { begin = begin; width = width; count = long / width }, begin + long)) None) (lt-ltb (begin + long) (2 ^ 64) ends)
        ∙ ap (λ n. Some (record { begin = begin; width = width; count = n }, begin + long)) is)

-- the place and the bytes after all runs
pub runs_after : (b rest : List ℕ) (p : ℕ) (rs : List Run) → length b < 2 ^ 64 → AllByRecursion IsWidthRun rs → drop p b ≡ flat_map bucket_bytes rs ++ rest → (q : ℕ) × (after_heads b (length rs) p ≡ Some q) × (drop q b ≡ rest)
runs_after b rest p [] fits each is = (p, refl, is)
runs_after b rest p (r ∷ rs) fits each is =
    let k = run_front b (flat_map bucket_bytes rs ++ rest) p r fits each.0 (is ∙ append_assoc (bucket_bytes r) (flat_map bucket_bytes rs) rest) in
    let l = runs_after b rest ((p + 12) + r.0 * length r.1) rs fits each.1 k.following in
    (l.0, ap (option_and_then (λ (f : Bucket × ℕ). after_heads b (length rs) f.1)) k.head ∙ l.1, l.2)

-- the bucket of a run is found, and its entries are there
pub record FindsRun (b : List ℕ) (r : Run) (found : Option Bucket) : Type 0 where
  pub bucket : Bucket
  pub is : found ≡ Some bucket
  pub width : bucket.width ≡ r.0
  pub count : bucket.count ≡ length r.1
  pub rest : List ℕ
  pub entries : drop bucket.begin b ≡ flat_map entry_bytes r.1 ++ rest

found_so : (b : List ℕ) (r : Run) (x y : Option Bucket) → x ≡ y → FindsRun b r y → FindsRun b r x
found_so b r x y same h = record { bucket = h.bucket; is = same ∙ h.is; width = h.width; count = h.count; rest = h.rest; entries = h.entries }

pub run_found : (b rest : List ℕ) (w p : ℕ) (xs : List Run) (r : Run) (ys : List Run) → length b < 2 ^ 64 → AllByRecursion IsWidthRun (xs ++ (r ∷ ys)) → AllByRecursion (λ (x : Run). x.0 ≡ w → ⊥) xs → r.0 ≡ w → drop p b ≡ flat_map bucket_bytes (xs ++ (r ∷ ys)) ++ rest → FindsRun b r (bucket_from b w (length (xs ++ (r ∷ ys))) p)
run_found b rest w p [] r ys fits each others it is =
    let k = run_front b (flat_map bucket_bytes ys ++ rest) p r fits each.0 (is ∙ append_assoc (bucket_bytes r) (flat_map bucket_bytes ys) rest) in
    record {
      bucket = bucket_there p r;
      is = ap (option_and_then (λ (f : Bucket × ℕ). cond (f.0.width == w) (Some f.0) (bucket_from b w (length ys) f.1))) k.head
          ∙ ap (λ v. cond v (Some (bucket_there p r)) (bucket_from b w (length ys) ((p + 12) + r.0 * length r.1))) (eq-eqb r.0 w it);
      width = refl;
      count = refl;
      rest = flat_map bucket_bytes ys ++ rest;
      entries = k.entries;
    }
run_found b rest w p (x ∷ xs) r ys fits each others it is =
    let k = run_front b (flat_map bucket_bytes (xs ++ (r ∷ ys)) ++ rest) p x fits each.0 (is ∙ append_assoc (bucket_bytes x) (flat_map bucket_bytes (xs ++ (r ∷ ys))) rest) in
    let next = (p + 12) + x.0 * length x.1 in
    found_so b r _ _
    (ap (option_and_then (λ (f : Bucket × ℕ). cond (f.0.width == w) (Some f.0) (bucket_from b w (length (xs ++ (r ∷ ys))) f.1))) k.head
    ∙ ap (λ v. cond v (Some (bucket_there p x)) (bucket_from b w (length (xs ++ (r ∷ ys))) next)) (ne_eqb x.0 w others.0))
    (run_found b rest w next xs r ys fits each.1 others.1 it k.following)

-- ---- the entries of one hash code

-- entries of a hash code, that has room, as their widths have
pub record IsCodeRun (s : Run) : Type 0 where
  pub high : s.0 < 2 ^ 64
  pub few : length (runs width_of s.1) < 2 ^ 32
  pub each : AllByRecursion IsWidthRun (runs width_of s.1)

buckets_front : (b rest : List ℕ) (p : ℕ) (es : List EntryParts) → length (runs width_of es) < 2 ^ 32 → drop p b ≡ buckets_bytes es ++ rest → (number_in w32 b p ≡ Some (length (runs width_of es))) × (drop (p + 4) b ≡ flat_map bucket_bytes (runs width_of es) ++ rest)
buckets_front b rest p es few is =
    count_front b (flat_map bucket_bytes (runs width_of es) ++ rest) p (length (runs width_of es)) few (is ∙ append_assoc (to_le_bytes w32 (length (runs width_of es))) (flat_map bucket_bytes (runs width_of es)) rest)

-- the code of a run, its entries, and the bytes after them
pub record IsCodeAt (b rest : List ℕ) (p : ℕ) (s : Run) : Type 0 where
  pub code : number_in w64 b p ≡ Some s.0
  pub buckets : drop (p + 8) b ≡ buckets_bytes s.1 ++ rest
  pub next : ℕ
  pub after : after_buckets b (p + 8) ≡ Some next
  pub following : drop next b ≡ rest

pub code_front : (b rest : List ℕ) (p : ℕ) (s : Run) → length b < 2 ^ 64 → IsCodeRun s → drop p b ≡ code_bytes s ++ rest → IsCodeAt b rest p s
code_front b rest p s fits run is =
    let first = number_front b (buckets_bytes s.1 ++ rest) p s.0 run.high (is ∙ append_assoc (to_le_bytes w64 s.0) (buckets_bytes s.1) rest) in
    let heads = buckets_front b rest (p + 8) s.1 run.few first.1 in
    let all = runs_after b rest ((p + 8) + 4) (runs width_of s.1) fits run.each heads.1 in
    record {
      code = first.0;
      buckets = first.1;
      next = all.0;
      after = ap (option_and_then (λ n. after_heads b n ((p + 8) + 4))) heads.0 ∙ all.1;
      following = all.2;
    }

-- the run of a width is found among those of a code
pub width_found : (b rest : List ℕ) (w p : ℕ) (es : List EntryParts) (xs : List Run) (r : Run) (ys : List Run) → length b < 2 ^ 64 → length (runs width_of es) < 2 ^ 32 → AllByRecursion IsWidthRun (runs width_of es) → runs width_of es ≡ xs ++ (r ∷ ys) → AllByRecursion (λ (x : Run). x.0 ≡ w → ⊥) xs → r.0 ≡ w → drop p b ≡ buckets_bytes es ++ rest → FindsRun b r (bucket_in b w p)
width_found b rest w p es xs r ys fits few each split others it is =
    let heads = buckets_front b rest p es few is in
    found_so b r _ _ (ap (option_and_then (λ n. bucket_from b w n (p + 4))) heads.0 ∙ ap (λ (rs : List Run). bucket_from b w (length rs) (p + 4)) split)
    (run_found b rest w (p + 4) xs r ys fits (subst (AllByRecursion IsWidthRun) split each) others it (heads.1 ∙ ap (λ rs. flat_map bucket_bytes rs ++ rest) split))

-- and that of a code
pub code_found : (b rest : List ℕ) (code w p : ℕ) (xs : List Run) (s : Run) (ys : List Run) (r : Run) → length b < 2 ^ 64 → AllByRecursion IsCodeRun (xs ++ (s ∷ ys)) → AllByRecursion (λ (x : Run). x.0 ≡ code → ⊥) xs → s.0 ≡ code → ((q : ℕ) (more : List ℕ) → drop q b ≡ buckets_bytes s.1 ++ more → FindsRun b r (bucket_in b w q)) → drop p b ≡ flat_map code_bytes (xs ++ (s ∷ ys)) ++ rest → FindsRun b r (bucket_under_from b code w (length (xs ++ (s ∷ ys))) p)
code_found b rest code w p [] s ys r fits each others it finds is =
    let k = code_front b (flat_map code_bytes ys ++ rest) p s fits each.0 (is ∙ append_assoc (code_bytes s) (flat_map code_bytes ys) rest) in
    found_so b r _ _
    (ap (option_and_then (λ c. cond (c == code) (bucket_in b w (p + 8)) (option_and_then (bucket_under_from b code w (length ys)) (after_buckets b (p + 8))))) k.code
    ∙ ap (λ v. cond v (bucket_in b w (p + 8)) (option_and_then (bucket_under_from b code w (length ys)) (after_buckets b (p + 8)))) (eq-eqb s.0 code it))
    (finds (p + 8) (flat_map code_bytes ys ++ rest) k.buckets)
code_found b rest code w p (x ∷ xs) s ys r fits each others it finds is =
    let k = code_front b (flat_map code_bytes (xs ++ (s ∷ ys)) ++ rest) p x fits each.0 (is ∙ append_assoc (code_bytes x) (flat_map code_bytes (xs ++ (s ∷ ys))) rest) in
    found_so b r _ _
    (ap (option_and_then (λ c. cond (c == code) (bucket_in b w (p + 8)) (option_and_then (bucket_under_from b code w (length (xs ++ (s ∷ ys)))) (after_buckets b (p + 8))))) k.code
    ∙ (ap (λ v. cond v (bucket_in b w (p + 8)) (option_and_then (bucket_under_from b code w (length (xs ++ (s ∷ ys)))) (after_buckets b (p + 8)))) (ne_eqb x.0 code others.0)
    ∙ ap (option_and_then (bucket_under_from b code w (length (xs ++ (s ∷ ys))))) k.after))
    (code_found b rest code w k.next xs s ys r fits each.1 others.1 it finds k.following)

-- the run of a multihash is found in an index
pub index_found : (b rest : List ℕ) (index code : ℕ) (digest : List ℕ) (es : List EntryParts) (xs : List Run) (s : Run) (ys : List Run) (r : Run) → length b < 2 ^ 64 → length (runs hash_code_of es) < 2 ^ 32 → AllByRecursion IsCodeRun (runs hash_code_of es) → runs hash_code_of es ≡ xs ++ (s ∷ ys) → AllByRecursion (λ (x : Run). x.0 ≡ code → ⊥) xs → s.0 ≡ code → ((q : ℕ) (more : List ℕ) → drop q b ≡ buckets_bytes s.1 ++ more → FindsRun b r (bucket_in b (length digest + 8) q)) → drop index b ≡ index_bytes es ++ rest → FindsRun b r (find_bucket b index code digest)
index_found b rest index code digest es xs s ys r fits few each split others it finds is =
    let two : List ℕ = 0x81 ∷ (0x08 ∷ []) in
    let within : index + (length two + length (codes_bytes es ++ rest)) ≡ length b = front_within b two (codes_bytes es ++ rest) index (omega arith) is in
    let there : index + 2 ≤ length b = omega (arith, within) in
    let format : number_in w16 b index ≡ Some 0x0881 = number_some w16 b index there ∙ ap Some (ap (from_le_bytes w16) (front_taken b two (codes_bytes es ++ rest) index 2 refl is)) in
    let following : drop (index + 2) b ≡ codes_bytes es ++ rest = after_front b two (codes_bytes es ++ rest) index 2 refl is in
    let heads = count_front b (flat_map code_bytes (runs hash_code_of es) ++ rest) (index + 2) (length (runs hash_code_of es)) few (following ∙ append_assoc (to_le_bytes w32 (length (runs hash_code_of es))) (flat_map code_bytes (runs hash_code_of es)) rest) in
    found_so b r _ _
    (ap (option_and_then (λ f. cond (f == 0x0880) (bucket_in b (length digest + 8) (index + 2)) (cond (f == 0x0881) (bucket_under b code (length digest + 8) (index + 2)) None))) format
    ∙ (ap (option_and_then (λ n. bucket_under_from b code (length digest + 8) n ((index + 2) + 4))) heads.0 ∙ ap (λ (rs : List Run). bucket_under_from b code (length digest + 8) (length rs) ((index + 2) + 4)) split))
    (code_found b rest code (length digest + 8) ((index + 2) + 4) xs s ys r fits (subst (AllByRecursion IsCodeRun) split each) others it finds (heads.1 ∙ ap (λ rs. flat_map code_bytes rs ++ rest) split))
