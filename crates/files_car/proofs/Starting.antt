-- The start of a file of either version.
use Rattle.std.proofs.Common.{◌≡◌, ◌⊎◌, inl, inr, ℕ, zero, suc, ◌+◌, ◌-◌, ◌*◌, ◌<◌, ◌≤◌, ◌^◌, min, true, false, List, [], ◌∷◌, ◌++◌, length, length-append, length-take, length-drop, drop_of_length-le, take, drop, take-append-drop, refl, sym, ap, ◌∙◌, subst, arith, append_assoc, append-nil, ◌↔◌, Bool, IsTrue, Option, None, Some, option_map, Result, Ok, Err, MatchResult, Vec, flat_map, Global}
use Rattle.std.proofs.lemmas.List.{take-append-le, drop-append-le}
use Rattle.std.proofs.lemmas.Bool.{cases_lt}
use lib.Seq.{take_all, take-take, drop-append_seam, drop-append-add}
use Rattle.std.specs.Int.{w64, from_le_bytes}
use Rattle.dagcbor_heads.specs.Reading.{Reading}
use Rattle.dagcbor_heads.specs.Fronts.{Takes}
use Rattle.dagcbor_heads.specs.Looking.{LooksAtMost, LooksAtSome, LooksAtLeft}
use Rattle.dagcbor_heads.proofs.Taking.{takes_both}
use Rattle.dagcbor_heads.proofs.Looking.{some_both}
use Rattle.ipld_tree.specs.Cid.{varint, CidParts}
use Rattle.ipld_tree.specs.Spelling.{spelling, IsSpelling}
use Rattle.dagcbor_items.specs.Walks.{forms}
use Rattle.files_car.specs.Car.{counted, header_tree, header_bytes, IsHeader, Section, section_bytes, IsCar}
use Rattle.files_car.specs.Splits.{CountFault, SplitsCounted, IsNoHeader}
use Rattle.ipld_links.specs.Blocks.{HasBlock}
use Rattle.files_car.specs.Versions.{pragma, IsVersion2, number_after, begin_of, length_of, HasSpan, HoldsCar, IsFile, SpanFault, MayBeVersion2}
use Rattle.files_car.specs.Extents.{bytes_within, wanting, of_file, Spends, TakesOff}
use Rattle.files_car.specs.Sources.{CarRefuses, LacksMemoryIf, FileLacks, SectionLacks, IsShort, RefusesHeader, RefusesStart, IsStartOfFile, TakesStart, PullsStart, LooksTwice}
use Rattle.files_car.specs.Steps.{TakesSpan, TakesEnclosed, EnclosedLacks}
use Rattle.files_car.specs.declared.error.CarError.{CarError}
use Rattle.files_car.specs.declared.error.CarError.TheVariants.{Read, Truncated, InvalidOffset, OutOfMemory}
use Rattle.files_car.proofs.Cars.{counted_unique, car_unique}
use Rattle.files_car.proofs.Counts.{no_counted}
use Rattle.files_car.proofs.Headers.{not_read, not_counted}
use Rattle.files_car.proofs.HeaderShape.{header_spelled}
use Rattle.files_car.proofs.Spending.{within_le, within_after, wanting_after, off_within}
use Rattle.files_car.proofs.Pulling.{zero_form, refused_after}

-- ---- which version

-- the pragma without its length
abbrev pub version_2 : List ℕ
version_2 = drop 1 pragma

ten_form : varint 10 ≡ 10 ∷ []
unfolding varint
ten_form = refl

pragma_counted : pragma ≡ counted version_2
pragma_counted = ap (λ v. v ++ version_2) (sym ten_form)

-- the bytes of version 2 are these eleven, and others
pub version_split : (b : List ℕ) → IsVersion2 b → b ≡ pragma ++ drop 11 b
version_split b h = sym (take-append-drop 11 b) ∙ ap (λ x. x ++ drop 11 b) h

version_counted : (b : List ℕ) → IsVersion2 b → SplitsCounted b version_2 (drop 11 b)
version_counted b h = (omega arith, version_split b h ∙ ap (λ x. x ++ drop 11 b) pragma_counted)

pub uncounted_version : {E : Type 0} (e : CarError E) (b : List ℕ) → CountFault e b → IsVersion2 b → ⊥
uncounted_version e b f h = no_counted e b version_2 (drop 11 b) f (version_counted b h)

pub inner_pragma : (inner : List ℕ) → 0x0a ∷ inner ≡ pragma → counted inner ≡ pragma
inner_pragma inner e = (let same : inner ≡ version_2 = cc e in ap counted same ∙ sym pragma_counted)

pub other_version : (b inner rest : List ℕ) → SplitsCounted b inner rest → (0x0a ∷ inner ≡ pragma → ⊥) → IsVersion2 b → ⊥
other_version b inner rest h none v =
    let k = version_counted b v in
    none (ap (λ x. 0x0a ∷ x) (counted_unique inner version_2 rest (drop 11 b) h.0 k.0 (sym h.1 ∙ k.1)).0)

-- bytes that begin like version 2, as far as they go, may be of version 2
pub may_be : (b : List ℕ) (n : ℕ) → n ≡ min (length b) 11 → take n b ≡ take n pragma → MayBeVersion2 b
may_be b n is same = elim (cases_lt 11 (length b)) [ inl long ↦ whole long | inr short ↦ begun short ]
  where
    whole : 11 < length b → MayBeVersion2 b
    whole long =
        let all : n ≡ 11 = omega (arith, is, long) in
        ([], ap (take 11) (append-nil b) ∙ subst (λ k. take k b ≡ take k pragma) all same)

    begun : length b ≤ 11 → MayBeVersion2 b
    begun short =
        let all : n ≡ length b = omega (arith, is, short) in
        let front : b ≡ take n pragma = sym (ap (λ k. take k b) all ∙ take_all (length b) b (omega arith)) ∙ same in
        (drop n pragma, ap (λ x. take 11 (x ++ drop n pragma)) front ∙ ap (take 11) (take-append-drop n pragma))

pub must_be : (b : List ℕ) (n : ℕ) → n ≡ min (length b) 11 → MayBeVersion2 b → take n b ≡ take n pragma
must_be b n is m = sym (take-append-le n b m.0 (omega (arith, is))) ∙ sym (take-take n 11 (b ++ m.0) (omega (arith, is))) ∙ ap (take n) m.1

pub may_be_told : (b : List ℕ) (n : ℕ) (answer : Bool) → n ≡ min (length b) 11 → IsTrue answer ↔ (take n b ≡ take n pragma) → IsTrue answer ↔ MayBeVersion2 b
may_be_told b n answer is test = (λ yes. may_be b n is (test.0 yes), λ m. test.1 (must_be b n is m))

-- bytes that may be version 2, and have its length, are
pub surely : (b : List ℕ) → 11 ≤ length b → MayBeVersion2 b → IsVersion2 b
surely b long m = sym (take-append-le 11 b m.0 long) ∙ m.1

pub fields_of : (b : List ℕ) → 51 ≤ length b → MayBeVersion2 b → pragma ++ take (length b - 11) (drop 11 b) ≡ b
fields_of b long m = ap (λ x. pragma ++ x) (take_all (length b - 11) (drop 11 b) (omega (arith, length-drop 11 b))) ∙ sym (version_split b (surely b (omega (arith, long)) m))

-- ---- the fields

-- a number that is whole stays the same, whatever follows
pub number_on : (n : ℕ) (b rest : List ℕ) → n + 8 ≤ length b → number_after n (b ++ rest) ≡ number_after n b
number_on n b rest h =
    ap (λ x. from_le_bytes w64 (take 8 x)) (drop-append-le n b rest (omega (arith, h)))
    ∙ ap (from_le_bytes w64) (take-append-le 8 (drop n b) rest (omega (arith, h, length-drop n b)))

-- so is the whole header
pub span_on : (b rest : List ℕ) → HasSpan b → HasSpan (b ++ rest)
span_on b rest h = record {
  version = take-append-le 11 b rest (omega (arith, h.whole)) ∙ h.version;
  whole = omega (arith, h.whole, length-append b rest);
  begin = subst (λ n. 51 ≤ n) (sym (number_on 27 b rest (omega (arith, h.whole)))) h.begin;
  end = (let p = number_on 27 b rest (omega (arith, h.whole)) in let q = number_on 35 b rest (omega (arith, h.whole)) in omega (arith, p, q, h.end));
}

-- ---- the file of version 1 in the bytes

-- bytes hold only one file of version 1
pub holds_one : (b car more : List ℕ) (m n : ℕ) → HoldsCar b car m → HoldsCar b more n → (car ≡ more) × (m ≡ n)
holds_one b car more m n (inl h) (inl k) = (h.1 ∙ sym k.1, h.2 ∙ sym k.2)
holds_one b car more m n (inl h) (inr k) = absurd (h.0 k.0.version)
holds_one b car more m n (inr h) (inl k) = absurd (k.0 h.0.version)
holds_one b car more m n (inr h) (inr k) =
    let same = h.1 ∙ sym k.1 in
    (same, h.2 ∙ ap (λ x. length_of b - length x) same ∙ sym k.2)

other_heads : (x y : ℕ) (xs ys : List ℕ) → y < x → x ∷ xs ≡ y ∷ ys → ⊥
other_heads x y xs ys less e = (let h : x ≡ y = cc e in omega (arith, h, less))

eleven : (b : List ℕ) → 11 + length b ≡ length (pragma ++ b)
eleven b = omega (arith, length-append pragma b)

-- the header of roots begins no file of version 2
header_version : (roots : List (List ℕ)) (rest : List ℕ) → IsHeader roots → IsVersion2 (header_bytes roots ++ rest) → ⊥
header_version roots rest h v =
    let k = version_counted (header_bytes roots ++ rest) v in
    let same = (counted_unique (spelling (header_tree roots)) version_2 rest (drop 11 (header_bytes roots ++ rest)) h.fits k.0 k.1).0 in
    other_heads 0xa2 0xa1 _ _ (omega arith) (sym (header_spelled roots) ∙ same)

-- after the start of a file the rest of it is left
pub start_holds : (front rest : List ℕ) (roots : List (List ℕ)) (x : Option ℕ) → IsHeader roots → IsStartOfFile front roots x → HoldsCar (front ++ rest) (header_bytes roots ++ bytes_within x rest) (wanting x rest)
start_holds front rest roots x header (inl h) =
    let none = subst (λ y. bytes_within y rest ≡ rest) (sym h.1) refl in
    (inl (
      λ v. header_version roots rest header (subst (λ f. IsVersion2 (f ++ rest)) h.0 v),
      ap (λ r. header_bytes roots ++ r) none ∙ ap (λ f. f ++ rest) (sym h.0),
      ap (λ y. wanting y rest) h.1,
    ))
start_holds front rest roots x header (inr h) = inr (span_on front rest h.0, is, lacks)
  where
    before : List ℕ
    before = h.1.0

    begin : begin_of (front ++ rest) ≡ length before
    begin = number_on 27 front rest (omega (arith, h.0.whole)) ∙ sym h.1.1

    long : length_of (front ++ rest) ≡ length_of front
    long = number_on 35 front rest (omega (arith, h.0.whole))

    whole : front ++ rest ≡ before ++ (header_bytes roots ++ rest)
    whole = ap (λ f. f ++ rest) h.1.2 ∙ append_assoc before (header_bytes roots) rest

    following : drop (begin_of (front ++ rest)) (front ++ rest) ≡ header_bytes roots ++ rest
    following = ap (λ n. drop n (front ++ rest)) begin ∙ ap (drop (length before)) whole ∙ drop-append_seam before (header_bytes roots ++ rest)

    is : header_bytes roots ++ bytes_within x rest ≡ take (length_of (front ++ rest)) (drop (begin_of (front ++ rest)) (front ++ rest))
    is = sym (within_after (Some (length_of front)) x (header_bytes roots) rest h.1.3) ∙ ap (λ n. take n (header_bytes roots ++ rest)) (sym long) ∙ ap (take (length_of (front ++ rest))) (sym following)

    fewer : (n : ℕ) (b c : List ℕ) → c ≡ take n b → n - length b ≡ n - length c
    fewer n b c e = omega (arith, ap length e, length-take n b)

    lacks : wanting x rest ≡ length_of (front ++ rest) - length (header_bytes roots ++ bytes_within x rest)
    lacks = wanting_after (Some (length_of front)) x (header_bytes roots) rest h.1.3 ∙ fewer (length_of front) (header_bytes roots ++ rest) (header_bytes roots ++ bytes_within x rest) (sym (within_after (Some (length_of front)) x (header_bytes roots) rest h.1.3)) ∙ ap (λ n. n - length (header_bytes roots ++ bytes_within x rest)) (sym long)

-- after the file of version 1 in one of version 2, the bytes are those after its length
pub start_after : (front rest : List ℕ) (roots : List (List ℕ)) (x : Option ℕ) → IsStartOfFile front roots x → (n : ℕ) → x ≡ Some n → HasSpan (front ++ rest) × (drop (begin_of (front ++ rest) + length_of (front ++ rest)) (front ++ rest) ≡ drop n rest)
start_after front rest roots x (inl h) n e = let clash = sym h.1 ∙ e in absurd (cc clash)
start_after front rest roots x (inr h) n e = (span_on front rest h.0, ap (λ k. drop k (front ++ rest)) sum ∙ drop-append-add front rest n)
  where
    spent : length_of front ≡ n + length (header_bytes roots)
    spent = (let s : Some (length_of front) ≡ Some (n + length (header_bytes roots)) = h.1.3 ∙ ap (option_map (λ m. m + length (header_bytes roots))) e in cc s)

    sum : begin_of (front ++ rest) + length_of (front ++ rest) ≡ length front + n
    sum =
        let p = number_on 27 front rest (omega (arith, h.0.whole)) in
        let q = number_on 35 front rest (omega (arith, h.0.whole)) in
        omega (arith, p, q, spent, h.1.1, ap length h.1.2, length-append h.1.0 (header_bytes roots))

pub start_all : (front rest : List ℕ) (roots : List (List ℕ)) (x : Option ℕ) → IsHeader roots → IsStartOfFile front roots x → x ≡ None → IsVersion2 (front ++ rest) → ⊥
start_all front rest roots x header (inl h) e v = header_version roots rest header (subst (λ f. IsVersion2 (f ++ rest)) h.0 v)
start_all front rest roots x header (inr h) e v = let clash = h.1.3 ∙ ap (option_map (λ m. m + length (header_bytes roots))) e in absurd (cc clash)

-- if the bytes do not say where the file of version 1 is, they hold none
pub no_span : {E : Type 0} (e : CarError E) (b : List ℕ) → SpanFault e b → (car : List ℕ) → HoldsCar b car 0 → ⊥
no_span e b f car (inl h) = h.0 (version e f)
  where
    version : {E : Type 0} (e : CarError E) → SpanFault e b → IsVersion2 b
    version Truncated f = f.0
    version InvalidOffset f = f.0
    version _ f = absurd f
no_span e b f car (inr h) = by e f
  where
    by : {E : Type 0} (e : CarError E) → SpanFault e b → ⊥
    by Truncated f = omega (arith, f.1, h.0.whole)
    by InvalidOffset f = elim f.2 [ inl low ↦ omega (arith, low, h.0.begin) | inr high ↦ omega (arith, high, h.0.end) ]
    by _ f = f

-- ---- skipped bytes

-- of `count` bytes some were taken, and `more` are to come
pub record IsSkipping (count more : ℕ) (old now : Reading) : Type 0 where
  pub bytes : List ℕ
  pub counted : length bytes + more ≡ count
  pub takes : Takes old bytes now
  pub looked : LooksAtSome 2 old now
  pub most : LooksAtMost (2 * length bytes) old now

pub skip_more : {count more piece : ℕ} {old mid new : Reading} (bytes : List ℕ) → IsSkipping count more old mid → piece ≤ more → length bytes ≡ piece → Takes mid bytes new → LooksAtSome 2 mid new → LooksAtMost (2 * piece) mid new → IsSkipping count (more - piece) old new
skip_more {count} {more} {piece} {old} {mid} {new} bytes h few long t looked most = record {
  bytes = h.bytes ++ bytes;
  counted = omega (arith, h.counted, few, long, length-append h.bytes bytes);
  takes = takes_both h.takes t;
  looked = some_both h.looked looked;
  most = omega (arith, h.most, most, long, length-append h.bytes bytes);
}

-- bytes that were lent
pub lent_looked : {n : ℕ} {bytes : List ℕ} {old new : Reading} → length bytes ≡ n → Takes old bytes new → new.looked ≡ old.looked + n → new.shown ≡ [] → LooksAtSome 2 old new
lent_looked {n} {bytes} {old} {new} long t looked none = record {
  grows = omega (arith, looked);
  most = λ b l. let w = t.taken b l in (w.0, n, w.2, omega (arith, ap length w.1, length-append bytes w.0, long), omega (arith, looked));
  none_shown = λ e. none;
}

-- ---- after the bytes that begin version 2

-- the bytes that are there of the file of version 1
span_holds : (front rest : List ℕ) (n : ℕ) → HasSpan (pragma ++ front) → 11 + length front ≡ begin_of (pragma ++ front) → n ≡ length_of (pragma ++ front) → HoldsCar (pragma ++ (front ++ rest)) (take n rest) (n - length (take n rest))
span_holds front rest n h begins long = inr (span_on (pragma ++ front) rest h, is, ap (λ m. m - length (take n rest)) (long ∙ sym same))
  where
    same : length_of (pragma ++ (front ++ rest)) ≡ length_of (pragma ++ front)
    same = number_on 35 (pragma ++ front) rest (omega (arith, h.whole))

    begin : begin_of (pragma ++ (front ++ rest)) ≡ length (pragma ++ front)
    begin = number_on 27 (pragma ++ front) rest (omega (arith, h.whole)) ∙ sym begins ∙ eleven front

    following : drop (begin_of (pragma ++ (front ++ rest))) (pragma ++ (front ++ rest)) ≡ rest
    following = ap (λ k. drop k (pragma ++ (front ++ rest))) begin ∙ drop-append_seam (pragma ++ front) rest

    is : take n rest ≡ take (length_of (pragma ++ (front ++ rest))) (drop (begin_of (pragma ++ (front ++ rest))) (pragma ++ (front ++ rest)))
    is = ap (λ k. take k rest) (long ∙ sym same) ∙ ap (take (length_of (pragma ++ (front ++ rest)))) (sym following)

-- the fields are cut
pub fields_cut : {E : Type 0} (old new : Reading) (e : CarError E) → CarRefuses (IsShort 40) old e new → CarRefuses (λ e b. RefusesStart e (pragma ++ b)) old e new
fields_cut old new (Read f) r = r
fields_cut old new OutOfMemory r = r
fields_cut {E} old new e r = (r.0, λ b l. let s = r.1 b l in subst (λ f. RefusesStart {E = E} f (pragma ++ b)) (sym s.0) (inl (refl, omega (arith, s.1))))

-- the fields tell no place
pub fields_fault : (E : Type 0) (fields : List ℕ) (old new : Reading) → length fields ≡ 40 → Takes old fields new → (begin_of (pragma ++ fields) < 51) ⊎ (2 ^ 64 ≤ begin_of (pragma ++ fields) + length_of (pragma ++ fields)) → CarRefuses {E = E} (λ e b. RefusesStart e (pragma ++ b)) old InvalidOffset new
fields_fault E fields old new long t f = (t.same.faults, λ b l. let w = t.taken b l in subst (λ x. RefusesStart {E = E} InvalidOffset (pragma ++ x)) (sym w.1) (inl (refl, omega (arith, long, length-append fields w.0), there w.0)))
  where
    there : (rest : List ℕ) → (begin_of (pragma ++ (fields ++ rest)) < 51) ⊎ (2 ^ 64 ≤ begin_of (pragma ++ (fields ++ rest)) + length_of (pragma ++ (fields ++ rest)))
    there rest =
        let p = number_on 27 (pragma ++ fields) rest (omega (arith, long)) in
        let q = number_on 35 (pragma ++ fields) rest (omega (arith, long)) in
        elim f [ inl low ↦ inl (omega (arith, p, low)) | inr high ↦ inr (omega (arith, p, q, high)) ]

nothing_cut : (E : Type 0) → RefusesHeader {E = E} Truncated []
nothing_cut E = not_counted {E = E} Truncated [] (inl (0, varint 0, omega arith, omega (arith, ap length zero_form), refl))

-- the bytes end before the file of version 1
pub skip_cut : {E : Type 0} (fields : List ℕ) (old mid new : Reading) (e : CarError E) (n : ℕ) → length fields ≡ 40 → HasSpan (pragma ++ fields) → n ≡ begin_of (pragma ++ fields) → Takes old fields mid → CarRefuses (IsShort (n - 51)) mid e new → CarRefuses (λ e b. RefusesStart e (pragma ++ b)) old e new
skip_cut {E} fields old mid new e n long h is t r = refused_after (IsShort (n - 51)) (λ e b. RefusesStart e (pragma ++ b)) fields old mid new e t (λ rest s. subst (λ f. RefusesStart {E = E} f (pragma ++ (fields ++ rest))) (sym s.0) (inr ([], length_of (pragma ++ (fields ++ rest)), there rest s.1, nothing_cut E))) r
  where
    none : (k : ℕ) (b : List ℕ) → b ≡ [] → [] ≡ take k b
    none zero b e = refl
    none (suc k) b e = ap (take (suc k)) (sym e)

    there : (rest : List ℕ) → length rest < n - 51 → HoldsCar (pragma ++ (fields ++ rest)) [] (length_of (pragma ++ (fields ++ rest)))
    there rest few =
        let p = number_on 27 (pragma ++ fields) rest (omega (arith, long)) in
        inr (span_on (pragma ++ fields) rest h, none (length_of (pragma ++ (fields ++ rest))) (drop (begin_of (pragma ++ (fields ++ rest))) (pragma ++ (fields ++ rest))) (drop_of_length-le (pragma ++ (fields ++ rest)) (omega (arith, p, is, few, long, length-append fields rest))), omega arith)

pub span_taken : (fields bytes : List ℕ) (old mid new : Reading) (begin n : ℕ) → length fields ≡ 40 → HasSpan (pragma ++ fields) → begin ≡ begin_of (pragma ++ fields) → n ≡ length_of (pragma ++ fields) → Takes old fields mid → LooksAtMost 80 old mid → length bytes ≡ begin - 51 → Takes mid bytes new → LooksAtMost (2 * (begin - 51)) mid new → TakesSpan old n new
span_taken fields bytes old mid new begin n long h at is t most count u more = record {
  front = fields ++ bytes;
  takes = takes_both t u;
  span = span_on (pragma ++ fields) bytes h;
  begins = (let p = number_on 27 (pragma ++ fields) bytes (omega (arith, long)) in omega (arith, p, at, h.begin, count, long, length-append fields bytes));
  long = is ∙ sym (number_on 35 (pragma ++ fields) bytes (omega (arith, long)));
  looked = omega (arith, most, more, long, count, length-append fields bytes);
}

-- ---- the header of the file of version 1 in it

pub enclosed_uncounted : {E : Type 0} (e : CarError E) (n : ℕ) {old mid : Reading} (new : Reading) → TakesSpan old n mid → CarRefuses CountFault (of_file (Some n) mid) e new → CarRefuses (λ e b. RefusesStart e (pragma ++ b)) old e new
enclosed_uncounted (Read f) n {old} {mid} new h r = omega (arith, h.takes.same.faults, r)
enclosed_uncounted OutOfMemory n {old} {mid} new h r = r ∙ h.takes.same.faults
enclosed_uncounted {E} e n {old} {mid} new h r = (
  r.0 ∙ h.takes.same.faults,
  λ b l.
      let w = h.takes.taken b l in
      subst (λ x. RefusesStart {E = E} e (pragma ++ x)) (sym w.1) (inr (take n w.0, n - length (take n w.0), span_holds h.front w.0 n h.span h.begins h.long, not_counted {E = E} e (take n w.0) (r.1 (take n w.0) (ap (option_map (take n)) w.2)))),
)

pub enclosed_unread : {E : Type 0} (e : CarError E) (n : ℕ) (inner : List ℕ) {y : Option ℕ} {old mid new : Reading} → TakesSpan old n mid → length inner < 2 ^ 64 → TakesOff (Some n) mid (counted inner) y new → IsNoHeader e inner → CarRefuses (λ e b. RefusesStart e (pragma ++ b)) old e new
enclosed_unread (Read f) n inner {y} {old} {mid} {new} h fits t r = absurd r
enclosed_unread OutOfMemory n inner {y} {old} {mid} {new} h fits t r = t.takes.same.faults ∙ h.takes.same.faults
enclosed_unread {E} e n inner {y} {old} {mid} {new} h fits t r = (
  t.takes.same.faults ∙ h.takes.same.faults,
  λ b l.
      let w = h.takes.taken b l in
      let u = (off_within t).taken (take n w.0) (ap (option_map (take n)) w.2) in
      subst (λ x. RefusesStart {E = E} e (pragma ++ x)) (sym w.1) (inr (take n w.0, n - length (take n w.0), span_holds h.front w.0 n h.span h.begins h.long, not_read {E = E} e (take n w.0) inner u.0 (fits, u.1) r)),
)

is_header : (inner : List ℕ) (roots : List (List ℕ)) → length inner < 2 ^ 64 → IsSpelling inner (header_tree roots) → IsHeader roots
is_header inner roots fits s = record { well_formed = s.well_formed; spellable = s.spellable; fits = omega (arith, fits, ap length s.is) }

pub enclosed_taken : (n : ℕ) (inner : List ℕ) (roots : List (List ℕ)) {y : Option ℕ} {old mid new : Reading} → TakesSpan old n mid → length inner < 2 ^ 64 → TakesOff (Some n) mid (counted inner) y new → IsSpelling inner (header_tree roots) → LooksAtMost (2 * length (counted inner)) mid new → new.shown ≡ [] → TakesEnclosed old roots y new
enclosed_taken n inner roots {y} {old} {mid} {new} h fits t s most none = record {
  front = h.front ++ header_bytes roots;
  header = is_header inner roots fits s;
  start = inr (span_on (pragma ++ h.front) (header_bytes roots) h.span, (pragma ++ h.front, sym (eleven h.front) ∙ h.begins ∙ sym (number_on 27 (pragma ++ h.front) (header_bytes roots) (omega (arith, h.span.whole))), refl, spent));
  takes = takes_both h.takes (subst (λ b. Takes mid b new) same t.takes);
  looked = omega (arith, h.looked, most, ap length same, length-append h.front (header_bytes roots));
  none_shown = none;
}
  where
    same : counted inner ≡ header_bytes roots
    same = ap counted s.is

    spent : Spends (Some (length_of (pragma ++ (h.front ++ header_bytes roots)))) (length (header_bytes roots)) y
    spent = ap Some (number_on 35 (pragma ++ h.front) (header_bytes roots) (omega (arith, h.span.whole)) ∙ sym h.long) ∙ subst (λ k. Spends (Some n) k y) (ap length same) t.spends

pub unread_lacks : {E : Type 0} (T : Type 0) (P : Type 0) (e : CarError E) (inner : List ℕ) → (HasBlock inner → P) → IsNoHeader e inner → LacksMemoryIf {T = T} P (Err e)
unread_lacks T P OutOfMemory inner f r = f r
unread_lacks T P e inner f r = tt

pub enclosed_block : (n : ℕ) (inner : List ℕ) {y : Option ℕ} {old mid new : Reading} → TakesSpan old n mid → length inner < 2 ^ 64 → TakesOff (Some n) mid (counted inner) y new → HasBlock inner → EnclosedLacks old
enclosed_block n inner {y} {old} {mid} {new} h fits t has lent b l =
    let w = h.takes.taken b l in
    let u = (off_within t).taken (take n w.0) (ap (option_map (take n)) w.2) in
    (take n w.0, n - length (take n w.0), subst (λ x. HoldsCar (pragma ++ x) (take n w.0) (n - length (take n w.0))) (sym w.1) (span_holds h.front w.0 n h.span h.begins h.long), (inner, u.0, (fits, u.1), has))

-- ---- the start of a file

-- if the test fails, the property does not hold
pub is_other : (b : Bool) (P : Type 0) → IsTrue b ↔ P → b ≡ false → P → ⊥
is_other b P test other p = let clash = sym (test.1 p) ∙ other in absurd (cc clash)

pub start_uncounted : {E : Type 0} (e : CarError E) (old new : Reading) → CarRefuses CountFault (of_file None old) e new → CarRefuses RefusesStart old e new
start_uncounted (Read f) old new r = r
start_uncounted OutOfMemory old new r = r
start_uncounted {E} e old new r = (r.0, λ b l. let f = r.1 b (ap (option_map (bytes_within None)) l) in inr (b, 0, inl (uncounted_version {E = E} e b f, refl, refl), not_counted {E = E} e b f))

pub start_unread : {E : Type 0} (e : CarError E) (inner : List ℕ) {old new : Reading} → length inner < 2 ^ 64 → Takes old (counted inner) new → (0x0a ∷ inner ≡ pragma → ⊥) → IsNoHeader e inner → CarRefuses RefusesStart old e new
start_unread (Read f) inner {old} {new} fits t other r = absurd r
start_unread OutOfMemory inner {old} {new} fits t other r = t.same.faults
start_unread {E} e inner {old} {new} fits t other r = (t.same.faults, λ b l. let w = t.taken b l in inr (b, 0, inl (other_version b inner w.0 (fits, w.1) other, refl, refl), not_read {E = E} e b inner w.0 (fits, w.1) r))

pub start_taken : (inner : List ℕ) (roots : List (List ℕ)) {old new : Reading} → length inner < 2 ^ 64 → Takes old (counted inner) new → IsSpelling inner (header_tree roots) → LooksAtMost (2 * length (counted inner)) old new → new.shown ≡ [] → TakesStart old roots None new
start_taken inner roots {old} {new} fits t s most none = record {
  front = counted inner;
  header = is_header inner roots fits s;
  start = inl (ap counted s.is, refl);
  takes = t;
  looked = most;
  none_shown = none;
}

pub start_enclosed : {E : Type 0} (inner : List ℕ) (r : Result (Vec CidParts Global × Option ℕ) (CarError E)) (old mid new : Reading) → 0x0a ∷ inner ≡ pragma → Takes old (counted inner) mid → LooksAtMost (2 * length (counted inner)) old mid
    → MatchResult r (λ p. TakesEnclosed mid (forms p.0.items) p.1 new) (λ e. CarRefuses (λ e b. RefusesStart e (pragma ++ b)) mid e new) → PullsStart old r new
start_enclosed inner (Ok p) old mid new is t most h =
    let same = inner_pragma inner is in
    record {
      front = pragma ++ h.front;
      header = h.header;
      start = h.start;
      takes = takes_both (subst (λ b. Takes old b mid) same t) h.takes;
      looked = omega (arith, most, h.looked, ap length same);
      none_shown = h.none_shown;
    }
start_enclosed {E} inner (Err e) old mid new is t most h = refused_after (λ e b. RefusesStart e (pragma ++ b)) RefusesStart pragma old mid new e (subst (λ b. Takes old b mid) (inner_pragma inner is) t) (λ rest s. s) h

pub start_unlent : (old : Reading) → SectionLacks (of_file None old) → FileLacks old
start_unlent old l lent b k = let clash : true ≡ false = sym lent ∙ l.0 in absurd (cc clash)

pub start_block : (inner : List ℕ) {old new : Reading} → length inner < 2 ^ 64 → Takes old (counted inner) new → (0x0a ∷ inner ≡ pragma → ⊥) → HasBlock inner → FileLacks old
start_block inner {old} {new} fits t other has lent b l = let w = t.taken b l in (b, 0, inl (other_version b inner w.0 (fits, w.1) other, refl, refl), (inner, w.0, (fits, w.1), has))

pub enclosed_lacks : {T E : Type 0} (inner : List ℕ) (r : Result T (CarError E)) {old mid : Reading} → 0x0a ∷ inner ≡ pragma → Takes old (counted inner) mid → LacksMemoryIf (EnclosedLacks mid) r → LacksMemoryIf (FileLacks old) r
enclosed_lacks inner (Ok v) {old} {mid} is t l = tt
enclosed_lacks inner (Err OutOfMemory) {old} {mid} is t l = λ lent b k.
    let w = t.taken b k in
    let u = l (t.same.lends ∙ lent) w.0 w.2 in
    (u.0, u.1, subst (λ x. HoldsCar x u.0 u.1) (ap (λ f. f ++ w.0) (sym (inner_pragma inner is)) ∙ sym w.1) u.2, u.3)
enclosed_lacks inner (Err e) {old} {mid} is t l = tt

-- ---- looks at bytes

pub left_wider : (x y : Option ℕ) (old now : Reading) → LooksAtLeft 2 0 (of_file x old) (of_file y now) → LooksAtLeft 2 0 old now
left_wider x y old now h = record { grows = h.grows; most = λ b l. omega (arith, h.most (bytes_within x b) (ap (option_map (bytes_within x)) l), within_le x b) }

pub left_after : {front : List ℕ} {old mid : Reading} (now : Reading) → Takes old front mid → LooksAtMost (2 * length front) old mid → old.looked ≤ mid.looked → LooksAtLeft 2 0 mid now → LooksAtLeft 2 0 old now
left_after {front} {old} {mid} now t most grows h = record {
  grows = omega (arith, grows, h.grows);
  most = λ b l. let w = t.taken b l in omega (arith, h.most w.0 w.2, most, ap length w.1, length-append front w.0);
}

pub twice_after : {T E : Type 0} (r : Result T (CarError E)) {front : List ℕ} {old mid : Reading} (now : Reading) → Takes old front mid → LooksAtMost (2 * length front) old mid → old.looked ≤ mid.looked → LooksTwice mid r now → LooksTwice old r now
twice_after (Ok v) {front} {old} {mid} now t most grows h = tt
twice_after (Err e) {front} {old} {mid} now t most grows h = left_after now t most grows h

-- ---- the law

pub file_unique : (b : List ℕ) (roots others : List (List ℕ)) (sections more : List Section) → IsFile b roots sections → IsFile b others more → (roots ≡ others) × (sections ≡ more)
file_unique b roots others sections more h k =
    let same = holds_one b h.0 k.0 0 0 h.1 k.1 in
    car_unique h.0 roots others sections more h.2 (subst (λ c. IsCar c others more) (sym same.0) k.2)

pub car_holds : (b : List ℕ) (roots : List (List ℕ)) (sections : List Section) → IsCar b roots sections → HoldsCar b b 0
car_holds b roots sections h = inl (λ v. header_version roots (flat_map section_bytes sections) h.header (subst IsVersion2 h.is v), refl, refl)

pub file_of_car : (b : List ℕ) (roots : List (List ℕ)) (sections : List Section) → IsCar b roots sections → IsFile b roots sections
file_of_car b roots sections h = (b, car_holds b roots sections h, h)
