-- What calls report of a CAR file is what is in it, however it is cut.
use Rattle.std.proofs.Common.{◌≡◌, ◌≢◌, ◌⊎◌, inl, inr, ℕ, ◌+◌, ◌-◌, ◌^◌, ◌<◌, ◌≤◌, nat_eq, nat_lt, Bool, true, false, not, ◌&&◌, ℤ, pos, List, [], ◌∷◌, ◌++◌, length, take, drop, refl, sym, ap, ◌∙◌, subst, arith, append_assoc, append-nil, length-append, length-take, take_all, drop-drop, lt-ltb, le-ltb, ltb-false, eq-eqb, if◌then◌else◌}
use Rattle.std.proofs.lemmas.List.{take-append-le, drop-append-le, drop-take}
use Rattle.std.proofs.lemmas.Bool.{cases_lt}
use Rattle.std.proofs.Math.Seq.{drop-append_seam, drop-append-add, take-append-add, drop-nil}
use Rattle.std.proofs.Math.ListN.{drop_of_length-le}
use Rattle.std.specs.declared.convert.Infallible.{Infallible}
use Rattle.dagcbor_core.specs.declared.error.DecodeError.{DecodeError}
use Rattle.dagcbor_core.specs.declared.error.DecodeError.TheVariants.{Msg}
use Rattle.dagcbor_decode.specs.declared.kind.Kind.{Kind}
use Rattle.dagcbor_decode.specs.declared.kind.Kind.TheVariants as kinds
use Rattle.ipld_tree.specs.Cid.{varint}
use Rattle.ipld_tree.specs.CidFault.{IsNoVarint}
use Rattle.ipld_tree.specs.Spelling.{spelling}
use Rattle.ipld_links.specs.declared.verdict.Verdict.{Verdict}
use Rattle.ipld_links.specs.declared.verdict.Verdict.TheVariants as verdicts
use Rattle.files_car.specs.Car.{counted, Section, section_body, section_bytes, header_tree, header_bytes}
use Rattle.files_car.specs.Splits.{SplitsCounted, CountFault, SplitsSection, BeginsNoSection, SectionFault, SplitsHeader, BeginsNoHeader, HeaderFault}
use Rattle.files_car.specs.Versions.{IsVersion2, begin_of, length_of, HasSpan, HoldsCar, MayBeVersion2, SpanFault, SpanRefused}
use Rattle.files_car.specs.declared.error.CarError.{CarError}
use Rattle.files_car.specs.declared.error.CarError.TheVariants.{Truncated, InvalidLength, InvalidCid, InvalidOffset, NoBlock, OtherHeader}
use Rattle.files_car.proofs.Cars.{counted_unique, section_some}
use Rattle.files_car.proofs.Counts.{no_counted, no_section_counted}
use Rattle.files_car.proofs.Headers.{not_counted}
use Rattle.files_car.proofs.HeaderShape.{header_spelled}
use Rattle.files_car.proofs.Starting.{number_on, span_on}
use Rattle.abi_calls.specs.Codes.{kind_code, refusal_code, verdict_code, fault_code, header_code}
use Rattle.abi_calls.specs.Walks.{is_last, is_unjudged, shown, may_grow, code_or_more, header_places, after_header, IsHeaderStep, IsSectionCode, IsAtEnd, IsSectionStep, of_version_1, of_version_2, IsFrontStep, IsNextAnswer}
use Rattle.abi_calls.specs.WalkRuns.{fresh, offsets, Told, told_by, Call, IsOfFile, Tell, AreToldOfSections, BeginsAt, AreToldOf, WalksAreExact, LastNeedsNoMore}
use Rattle.abi_calls.specs.declared.walk.CarWalk.{CarWalk}

-- ---- bytes at hand, and those that follow

-- with more bytes, more is shown
pub goes_on : (k : ℕ) (b more : List ℕ) → (tail : List ℕ) × (take k (b ++ more) ≡ take k b ++ tail)
goes_on k b more = elim (cases_lt (length b) k) [ inl short ↦ by short | inr long ↦ ([], take-append-le k b more long ∙ sym (append-nil (take k b))) ]
  where
    by : length b < k → (tail : List ℕ) × (take k (b ++ more) ≡ take k b ++ tail)
    by short =
        let sum : k ≡ length b + (k - length b) = omega (arith, short) in (
          take (k - length b) more,
          ap (λ n. take n (b ++ more)) sum ∙ take-append-add b more (k - length b) ∙ ap (λ x. x ++ take (k - length b) more) (sym (take_all k b (omega (arith, short)))),
        )

-- but not if all bytes that there are, or all that are shown, are at hand
pub stops_there : (last : Bool) (k : ℕ) (b more : List ℕ) → (last ≡ true → more ≡ []) → (not last && nat_lt (length b) k) ≡ false → take k (b ++ more) ≡ take k b
stops_there true k b more none stop = ap (λ m. take k (b ++ m)) (none refl) ∙ ap (take k) (append-nil b)
stops_there false k b more none stop = take-append-le k b more (ltb-false (length b) k stop)

pub drop_on : (n : ℕ) (b more : List ℕ) → drop n (b ++ more) ≡ drop n b ++ drop (n - length b) more
drop_on n b more = elim (cases_lt (length b) n) [ inl short ↦ by short | inr long ↦ whole long ]
  where
    by : length b < n → drop n (b ++ more) ≡ drop n b ++ drop (n - length b) more
    by short =
        let sum : n ≡ length b + (n - length b) = omega (arith, short) in
        let none : drop n b ≡ [] = drop_of_length-le b (omega (arith, short)) in
        ap (λ k. drop k (b ++ more)) sum ∙ drop-append-add b more (n - length b) ∙ ap (λ x. x ++ drop (n - length b) more) (sym none)

    whole : n ≤ length b → drop n (b ++ more) ≡ drop n b ++ drop (n - length b) more
    whole long =
        let none : n - length b ≡ 0 = omega (arith, long) in
        drop-append-le n b more long ∙ ap (λ k. drop n b ++ drop k more) (sym none)

-- ---- what follows a front

-- the bytes of the file from there on, up to the end
abbrev part_of : List ℕ → ℕ → ℕ → List ℕ
part_of file place end = take (end - place) (drop place file)

-- in version 1 no bytes are missing; in version 2 as many as are not there before the end
abbrev Stands : List ℕ → ℕ → ℕ → ℕ → ℕ → Type 0
Stands file place end version wanting = ((version ≡ 1) × (wanting ≡ 0))
    ⊎ ((version ≡ 2) × (place ≤ end) × (wanting ≡ (end - place) - length (part_of file place end)))

part_after : (file front rest : List ℕ) (place end : ℕ) → part_of file place end ≡ front ++ rest → (length front ≤ end - place) × (part_of file (place + length front) end ≡ rest)
part_after file front rest place end is = (fits, step)
  where
    n : ℕ
    n = length front

    fits : length front ≤ end - place
    fits = omega (arith, ap length is, length-take (end - place) (drop place file), length-append front rest)

    step : part_of file (place + length front) end ≡ rest
    step =
        let less : end - (place + length front) ≡ (end - place) - length front = omega arith in
        let sum : length front + ((end - place) - length front) ≡ end - place = omega (arith, fits) in
        ap (λ m. take m (drop (place + length front) file)) less
        ∙ ap (take ((end - place) - length front)) (sym (drop-drop (length front) place file))
        ∙ sym (drop-take (length front) ((end - place) - length front) (drop place file))
        ∙ ap (λ m. drop (length front) (take m (drop place file))) sum
        ∙ ap (drop (length front)) is
        ∙ drop-append_seam front rest

stands_after : (file front rest : List ℕ) (place end version wanting : ℕ) → part_of file place end ≡ front ++ rest → Stands file place end version wanting → Stands file (place + length front) end version wanting
stands_after file front rest place end version wanting is (inl h) = inl h
stands_after file front rest place end version wanting is (inr h) =
    let p = part_after file front rest place end is in
    inr (h.0, omega (arith, h.1, p.0), omega (arith, h.2, ap length p.1, ap length is, length-append front rest))

-- ---- faults

counted_on : (b c tail inner rest : List ℕ) → c ≡ b ++ tail → SplitsCounted b inner rest → SplitsCounted c inner (rest ++ tail)
counted_on b c tail inner rest is h = (h.0, is ∙ ap (λ x. x ++ tail) h.1 ∙ append_assoc (counted inner) rest tail)

no_varint_on : (b c tail : List ℕ) → c ≡ b ++ tail → IsNoVarint b → IsNoVarint c
no_varint_on b c tail is none n x y fits e = none n (tail ++ x) y fits (sym (append_assoc b tail x) ∙ ap (λ z. z ++ x) (sym is) ∙ e)

-- a section at the front of more bytes is at the front of those that have its length and what that
-- counts
section_back : (b c inner rest more other : List ℕ) (s : Section) → SplitsCounted b inner rest → SplitsCounted c inner more → SplitsSection c s other → SplitsSection b s rest
section_back b c inner rest more other s h w k =
    let same = (counted_unique inner (section_body s) more other w.0 k.0.1 (sym w.1 ∙ k.1)).0 in
    (k.0, h.1 ∙ ap (λ x. counted x ++ rest) same)

header_back : (b c inner rest more other : List ℕ) (roots : List (List ℕ)) → SplitsCounted b inner rest → SplitsCounted c inner more → SplitsHeader c roots other → SplitsHeader b roots rest
header_back b c inner rest more other roots h w k =
    let same = (counted_unique inner (spelling (header_tree roots)) more other w.0 k.0.fits (sym w.1 ∙ k.1)).0 in
    (k.0, h.1 ∙ ap (λ x. counted x ++ rest) same)

-- the fault of bytes is that of more bytes, unless more might mend it
pub section_fault_on : (e : CarError Infallible) (b c tail : List ℕ) → c ≡ b ++ tail → (e ≡ Truncated → c ≡ b) → BeginsNoSection b → SectionFault e b → BeginsNoSection c × SectionFault e c
section_fault_on Truncated b c tail is same none f = subst (λ x. BeginsNoSection x × SectionFault {E = Infallible} Truncated x) (sym (same refl)) (none, f)
section_fault_on InvalidLength b c tail is same none f = no_section_counted {E = Infallible} InvalidLength c (no_varint_on b c tail is f)
section_fault_on (InvalidCid g) b c tail is same none f =
    let w = counted_on b c tail f.0 f.1 is f.2 in
    (λ s rest k. none s f.1 (section_back b c f.0 f.1 (f.1 ++ tail) rest s f.2 w k), (f.0, f.1 ++ tail, w, f.3))
section_fault_on _ b c tail is same none f = absurd f

pub header_fault_on : (e : CarError Infallible) (b c tail : List ℕ) → c ≡ b ++ tail → (e ≡ Truncated → c ≡ b) → BeginsNoHeader b → HeaderFault e b → BeginsNoHeader c × HeaderFault e c
header_fault_on Truncated b c tail is same none f = subst (λ x. BeginsNoHeader x × HeaderFault {E = Infallible} Truncated x) (sym (same refl)) (none, f)
header_fault_on InvalidLength b c tail is same none f = not_counted {E = Infallible} InvalidLength c (no_varint_on b c tail is f)
header_fault_on (NoBlock r) b c tail is same none f =
    let w = counted_on b c tail f.0 f.1 is f.2 in
    (λ roots rest k. none roots f.1 (header_back b c f.0 f.1 (f.1 ++ tail) rest roots f.2 w k), (f.0, f.1 ++ tail, w, f.3))
header_fault_on OtherHeader b c tail is same none f =
    let w = counted_on b c tail f.0 f.1 is f.2 in
    (λ roots rest k. none roots f.1 (header_back b c f.0 f.1 (f.1 ++ tail) rest roots f.2 w k), (f.0, f.1 ++ tail, w, f.3))
header_fault_on _ b c tail is same none f = absurd f

pub span_fault_on : (e : CarError Infallible) (b more : List ℕ) → (e ≡ Truncated → more ≡ []) → SpanRefused e b → SpanRefused e (b ++ more)
span_fault_on e b more none (inl h) = subst (SpanRefused e) (sym (ap (λ x. b ++ x) (none h.0) ∙ append-nil b)) (inl h)
span_fault_on e b more none (inr f) = by e none f
  where
    by : (e : CarError Infallible) → (e ≡ Truncated → more ≡ []) → SpanFault e b → SpanRefused e (b ++ more)
    by Truncated none f = subst (SpanRefused {E = Infallible} Truncated) (sym (ap (λ x. b ++ x) (none refl) ∙ append-nil b)) (inr f)
    by InvalidOffset none f =
        let p = number_on 27 b more (omega (arith, f.1)) in
        let q = number_on 35 b more (omega (arith, f.1)) in
        inr (
          take-append-le 11 b more (omega (arith, f.1)) ∙ f.0,
          omega (arith, f.1, length-append b more),
          elim f.2 [ inl low ↦ inl (omega (arith, p, low)) | inr high ↦ inr (omega (arith, p, q, high)) ],
        )
    by _ none f = absurd f

-- ---- numbers

-- if no more bytes are asked for, the number is the cause's, and more would not mend it
pub told_fault : (e : CarError Infallible) (more : Bool) (code : ℤ) → code_or_more e more code ≢ pos 10 → (code_or_more e more code ≡ code) × (e ≡ Truncated → more ≡ false)
told_fault Truncated true code h = absurd (h refl)
told_fault Truncated false code h = (refl, λ _. refl)
told_fault e more code h = (refl, λ is. absurd (cc is))

-- only a kind's number is 0 or more
refusal_below : {E : Type 0} (e : DecodeError E) (n : ℕ) → refusal_code e ≢ pos n
refusal_below (Msg m) n h = absurd (cc h)
refusal_below e n h = absurd (cc h)

kind_low : (k : Kind) (n : ℕ) → kind_code k ≡ pos n → n ≤ 9
kind_low kinds.Null n h = (let is : 0 ≡ n = cc h in omega (arith, is))
kind_low kinds.Bool n h = (let is : 1 ≡ n = cc h in omega (arith, is))
kind_low kinds.Integer n h = (let is : 2 ≡ n = cc h in omega (arith, is))
kind_low kinds.String n h = (let is : 3 ≡ n = cc h in omega (arith, is))
kind_low kinds.Bytes n h = (let is : 4 ≡ n = cc h in omega (arith, is))
kind_low kinds.List n h = (let is : 5 ≡ n = cc h in omega (arith, is))
kind_low kinds.Map n h = (let is : 6 ≡ n = cc h in omega (arith, is))
kind_low kinds.Link n h = (let is : 7 ≡ n = cc h in omega (arith, is))

verdict_low : (v : Verdict) (n : ℕ) → verdict_code v ≡ pos n → n ≤ 9
verdict_low (verdicts.Block k) n h = kind_low k n h
verdict_low (verdicts.Refused e) n h = absurd (refusal_below e n h)
verdict_low verdicts.OtherBytes n h = absurd (cc h)
verdict_low verdicts.Unverified n h = absurd (cc h)
verdict_low v n h = (let is : 9 ≡ n = cc h in omega (arith, is))

pub fault_below : (e : CarError Infallible) (n : ℕ) → fault_code e ≢ pos n
fault_below Truncated n h = absurd (cc h)
fault_below e n h = absurd (cc h)

pub header_below : (e : CarError Infallible) (n : ℕ) → header_code e ≢ pos n
header_below (NoBlock r) n h = refusal_below r n h
header_below e n h = fault_below e n h

pub section_number : (unjudged : Bool) (s : Section) (code : ℤ) (n : ℕ) → IsSectionCode unjudged s code → code ≡ pos n → (n ≤ 9) ⊎ (n ≡ 13)
section_number true s code n h e = (let is : 13 ≡ n = (let k = sym h ∙ e in cc k) in inr (sym is))
section_number false s code n h e = inl (verdict_low h.0 n (sym h.2 ∙ e))

section_not_more : (unjudged : Bool) (s : Section) (code : ℤ) → IsSectionCode unjudged s code → code ≢ pos 10
section_not_more unjudged s code h e = elim (section_number unjudged s code 10 h e) [ inl low ↦ omega (arith, low) | inr is ↦ omega (arith, is) ]

-- ---- what a call reports

moved : (w after : CarWalk) (places : List ℕ) (code : ℤ) → w.place < after.place → after.step ≡ 1 → told_by w after places code ≡ (code, offsets w.place places)
moved w after places code less step =
    let p = lt-ltb w.place after.place less in
    let q = eq-eqb after.step 1 step in
    λ i. (code, if p i && q i then offsets w.place places else after.place ∷ [])

stayed : (w after : CarWalk) (places : List ℕ) (code : ℤ) → after.place ≤ w.place → told_by w after places code ≡ (code, after.place ∷ [])
stayed w after places code less =
    let p = le-ltb w.place after.place less in
    λ i. (code, if p i && nat_eq after.step 1 then offsets w.place places else after.place ∷ [])

and_false : (x : Bool) → (x && false) ≡ false
and_false true = refl
and_false false = refl

not_begun : (w after : CarWalk) (places : List ℕ) (code : ℤ) → after.step ≡ 0 → told_by w after places code ≡ (code, after.place ∷ [])
not_begun w after places code step =
    let q : nat_eq after.step 1 ≡ false = ap (λ n. nat_eq n 1) step in
    (λ i. (code, if nat_lt w.place after.place && q i then offsets w.place places else after.place ∷ []))
    ∙ ap (λ x. (code, if x then offsets w.place places else after.place ∷ [])) (and_false (nat_lt w.place after.place))

-- what is reported once a call was made
abbrev Next : Bool → List ℕ → List Call → CarWalk → CarWalk → List ℕ → ℤ → List Told → Type 0
Next unjudged file calls w after new code told = ((code ≡ pos 10) × Tell unjudged file after calls told)
    ⊎ ((code ≢ pos 10) × (more : List Told) × (told ≡ told_by w after new code ∷ more) × Tell unjudged file after calls more)

-- ---- among sections

no_bytes_cut : CountFault {E = Infallible} Truncated []
unfolding varint
no_bytes_cut = inl (0, varint 0, omega arith, omega arith, refl)

-- if more may come, no bytes have a fault
pub no_bytes_at_fault : (w : CarWalk) (e : CarError Infallible) → SectionFault e (shown w []) → (e ≡ Truncated → may_grow false w [] ≡ false) → w.place < w.end → ⊥
no_bytes_at_fault w e f stop less = by e f stop
  where
    nothing : shown w [] ≡ []
    nothing = take_all (w.end - w.place) [] (omega arith)

    by : (e : CarError Infallible) → SectionFault e (shown w []) → (e ≡ Truncated → may_grow false w [] ≡ false) → ⊥
    by Truncated f stop = (let k = ltb-false (length {A = ℕ} []) (w.end - w.place) (stop refl) in omega (arith, k, less))
    by InvalidLength f stop = subst IsNoVarint nothing f 0 (varint 0) [] (omega arith) (sym (append-nil (varint 0)))
    by (InvalidCid g) f stop = no_counted {E = Infallible} Truncated [] f.0 f.1 no_bytes_cut (subst (λ x. SplitsCounted x f.0 f.1) nothing f.2)
    by _ f stop = f

-- Some bytes of the file are left, or missing, if the sections are not at their end.
some_left : (last : Bool) (w : CarWalk) (e : CarError Infallible) (file b more : List ℕ) (wanting : ℕ) → Stands file w.place w.end w.version wanting → drop w.place file ≡ b ++ more → ¬ IsAtEnd last w b → SectionFault e (shown w b) → (e ≡ Truncated → may_grow last w b ≡ false) → 0 < length (part_of file w.place w.end) + wanting
some_left last w e file b more wanting (inr h) is not_end f stop = elim (cases_lt w.place w.end) [ inl less ↦ omega (arith, less, h.2) | inr over ↦ absurd (not_end (inl over)) ]
some_left last w e file (x ∷ b) more wanting (inl h) is not_end f stop = elim (cases_lt w.place w.end) [ inl less ↦ by less | inr over ↦ absurd (not_end (inl over)) ]
  where
    by : w.place < w.end → 0 < length (part_of file w.place w.end) + wanting
    by less = omega (arith, less, length-take (w.end - w.place) (drop w.place file), ap length is)
some_left true w e file [] more wanting (inl h) is not_end f stop = absurd (not_end (inr ((λ two. omega (arith, h.0, two)), refl, refl)))
some_left false w e file [] more wanting (inl h) is not_end f stop = elim (cases_lt w.place w.end) [ inl less ↦ absurd (no_bytes_at_fault w e f stop less) | inr over ↦ absurd (not_end (inl over)) ]

-- at the end no bytes are left, nor missing
none_left : (last : Bool) (w : CarWalk) (file b more : List ℕ) (wanting : ℕ) → Stands file w.place w.end w.version wanting → drop w.place file ≡ b ++ more → (last ≡ true → more ≡ []) → IsAtEnd last w b → (part_of file w.place w.end ≡ []) × (wanting ≡ 0)
none_left last w file b more wanting stands is none (inl over) =
    let zero : w.end - w.place ≡ 0 = omega (arith, over) in
    (ap (λ k. take k (drop w.place file)) zero, by stands)
  where
    by : Stands file w.place w.end w.version wanting → wanting ≡ 0
    by (inl h) = h.1
    by (inr h) = omega (arith, h.2, over)
none_left last w file b more wanting (inl h) is none (inr end) =
    let empty : drop w.place file ≡ [] = is ∙ (λ i. end.1 i ++ none end.2 i) in
    (ap (take (w.end - w.place)) empty ∙ take_all (w.end - w.place) [] (omega arith), h.1)
none_left last w file b more wanting (inr h) is none (inr end) = absurd (end.0 h.0)

module _ (unjudged : Bool) (file : List ℕ) (call : Call) (calls : List Call) (wanting : ℕ) where
  one_section : (w after : CarWalk) (old new : List ℕ) (code : ℤ) (told : List Told) → w.step ≡ 1 → Stands file w.place w.end w.version wanting → IsOfFile file w call → is_unjudged call.1 ≡ unjudged
      → IsSectionStep (is_last call.1) (is_unjudged call.1) w call.0 old after new code → Next unjudged file calls w after new code told
      → ((v : CarWalk) (more : List Told) → v.step ≡ 1 → Stands file v.place v.end v.version wanting → Tell unjudged file v calls more → AreToldOfSections unjudged wanting v.place (part_of file v.place v.end) more)
      → AreToldOfSections unjudged wanting w.place (part_of file w.place w.end) told
  one_section w after old new code told step stands hand alike (inl end) (inl more) next = (let clash = sym end.1 ∙ more.0 in absurd (cc clash))
  one_section w after old new code told step stands hand alike (inl end) (inr n) next =
      let at = none_left (is_last call.1) w file call.0 hand.0 wanting stands hand.1 hand.2 end.0 in
      let same : after.place ≡ w.place = ap (λ v. v.place) end.2 in
      let first : told_by w after new code ≡ (pos 12, w.place ∷ []) = stayed w after new code (omega (arith, same)) ∙ (λ i. (end.1 i, same i ∷ [])) in
      subst (AreToldOfSections unjudged wanting w.place (part_of file w.place w.end)) (sym n.2) (inr (inl (at.0, at.1, first, next w n.1 step stands (subst (λ v. Tell unjudged file v calls n.1) end.2 n.3))))
  one_section w after old new code told step stands hand alike (inr (inl s)) (inl more) next = absurd (section_not_more (is_unjudged call.1) s.0 code s.3 more.0)
  one_section w after old new code told step stands hand alike (inr (inl s)) (inr n) next =
      let section = s.0 in
      let tail = goes_on (w.end - w.place) call.0 hand.0 in
      let whole : part_of file w.place w.end ≡ section_bytes section ++ (s.1 ++ tail.0) = ap (take (w.end - w.place)) hand.1 ∙ tail.1 ∙ ap (λ x. x ++ tail.0) s.2.1 ∙ append_assoc (section_bytes section) s.1 tail.0 in
      let place : after.place ≡ w.place + length (section_bytes section) = ap (λ v. v.place) s.4 in
      let is_step : after.step ≡ 1 = ap (λ v. v.step) s.4 ∙ step in
      let less : w.place < after.place = omega (arith, place, section_some section s.2.0) in
      let first = moved w after new code less is_step in
      let judged : IsSectionCode unjudged section code = subst (λ u. IsSectionCode u section code) alike s.3 in
      let more = next (record w { place = w.place + length (section_bytes section) }) n.1 step (stands_after file (section_bytes section) (s.1 ++ tail.0) w.place w.end w.version wanting whole stands) (subst (λ v. Tell unjudged file v calls n.1) s.4 n.3) in
      subst (AreToldOfSections unjudged wanting w.place (part_of file w.place w.end)) (sym n.2) (inl (
        section,
        s.1 ++ tail.0,
        (s.2.0, whole),
        judged,
        ap (λ p. p.1) first ∙ ap (offsets w.place) s.5,
        subst (λ x. AreToldOfSections unjudged wanting (w.place + length (section_bytes section)) x n.1) (part_after file (section_bytes section) (s.1 ++ tail.0) w.place w.end whole).1 more,
      ))
  one_section w after old new code told step stands hand alike (inr (inr f)) (inl more) next = next w told step stands (subst (λ v. Tell unjudged file v calls told) f.5 more.1)
  one_section w after old new code told step stands hand alike (inr (inr f)) (inr n) next =
      let why = told_fault f.0 (may_grow (is_last call.1) w call.0) (fault_code f.0) (λ more. n.0 (f.4 ∙ more)) in
      let tail = goes_on (w.end - w.place) call.0 hand.0 in
      let whole : part_of file w.place w.end ≡ shown w call.0 ++ tail.0 = ap (take (w.end - w.place)) hand.1 ∙ tail.1 in
      let all : f.0 ≡ Truncated → part_of file w.place w.end ≡ shown w call.0 = λ cut. ap (take (w.end - w.place)) hand.1 ∙ stops_there (is_last call.1) (w.end - w.place) call.0 hand.0 hand.2 (why.1 cut) in
      let stays = section_fault_on f.0 (shown w call.0) (part_of file w.place w.end) tail.0 whole all f.2 f.3 in
      let some = some_left (is_last call.1) w f.0 file call.0 hand.0 wanting stands hand.1 f.1 f.3 why.1 in
      let same : after.place ≡ w.place = ap (λ v. v.place) f.5 in
      let is : code ≡ fault_code f.0 = f.4 ∙ why.0 in
      let first : told_by w after new code ≡ (fault_code f.0, w.place ∷ []) = stayed w after new code (omega (arith, same)) ∙ (λ i. (is i, same i ∷ [])) in
      subst (AreToldOfSections unjudged wanting w.place (part_of file w.place w.end)) (sym n.2) (inr (inr (f.0, (some, stays.0, stays.1), first, next w n.1 step stands (subst (λ v. Tell unjudged file v calls n.1) f.5 n.3))))

-- what a call returns after the header
at_section : (how : ℕ) (w after : CarWalk) (b old new : List ℕ) (code : ℤ) → w.step ≡ 1 → IsNextAnswer how w b old after new code → IsSectionStep (is_last how) (is_unjudged how) w b old after new code
at_section how w after b old new code step (inl h) = h.1
at_section how w after b old new code step (inr (inl h)) = absurd (omega (arith, step, h.0))
at_section how w after b old new code step (inr (inr h)) = absurd (omega (arith, step, h.0))

tell_sections : (unjudged : Bool) (file : List ℕ) (calls : List Call) (wanting : ℕ) (w : CarWalk) (told : List Told) → w.step ≡ 1 → Stands file w.place w.end w.version wanting → Tell unjudged file w calls told → AreToldOfSections unjudged wanting w.place (part_of file w.place w.end) told
tell_sections unjudged file [] wanting w told step stands t = subst (AreToldOfSections unjudged wanting w.place (part_of file w.place w.end)) (sym t) tt
tell_sections unjudged file (call ∷ calls) wanting w told step stands t =
    one_section unjudged file call calls wanting w t.0 t.1 t.2 t.3 told step stands t.4 t.5 (at_section call.1 w t.0 call.0 t.1 t.2 t.3 step t.6) t.7 (tell_sections unjudged file calls wanting)

-- ---- at the header

-- the walk is at the file of version 1, which lacks this many bytes
pub record IsAtCar (file : List ℕ) (w : CarWalk) (wanting : ℕ) : Type 0 where
  pub step : w.step ≡ 0
  pub begins : BeginsAt file w.place
  pub holds : HoldsCar file (part_of file w.place w.end) wanting
  pub stands : Stands file w.place w.end w.version wanting

pub header_some : (roots : List (List ℕ)) → 0 < length (header_bytes roots)
header_some roots = omega (arith, ap length (header_spelled roots), length-append (varint (length (spelling (header_tree roots)))) (spelling (header_tree roots)))

further : (n from place : ℕ) (roots : List (List ℕ)) → from + n ≡ place → offsets from (header_places n roots) ≡ offsets place (header_places 0 roots)
further n from place roots is =
    let a : from + n ≡ place + 0 = omega (arith, is) in
    let b : from + (n + length (varint (length (spelling (header_tree roots))))) ≡ place + (0 + length (varint (length (spelling (header_tree roots))))) = omega (arith, is) in
    let c : from + (n + length (header_bytes roots)) ≡ place + (0 + length (header_bytes roots)) = omega (arith, is) in
    λ i. a i ∷ b i ∷ c i ∷ []

module _ (unjudged : Bool) (file : List ℕ) (calls : List Call) (wanting : ℕ) where
  -- the walk was at `v` as the call began, which came to `w`, n bytes further on
  one_header : (how n : ℕ) (v w after : CarWalk) (b more old new : List ℕ) (code : ℤ) (told : List Told) → IsAtCar file w wanting → v.place + n ≡ w.place → drop w.place file ≡ b ++ more → (is_last how ≡ true → more ≡ [])
      → IsHeaderStep (is_last how) n w b old after new code → Next unjudged file calls v after new code told → ((told : List Told) → Tell unjudged file w calls told → AreToldOf unjudged file told) → AreToldOf unjudged file told
  one_header how n v w after b more old new code told at from hand none (inl h) (inl m) next = (let clash = sym h.3 ∙ m.0 in absurd (cc clash))
  one_header how n v w after b more old new code told at from hand none (inl h) (inr m) next =
      let roots = h.0 in
      let tail = goes_on (w.end - w.place) b more in
      let whole : part_of file w.place w.end ≡ header_bytes roots ++ (h.1 ++ tail.0) = ap (take (w.end - w.place)) hand ∙ tail.1 ∙ ap (λ x. x ++ tail.0) h.2.1 ∙ append_assoc (header_bytes roots) h.1 tail.0 in
      let place : after.place ≡ w.place + length (header_bytes roots) = ap (λ x. x.place) h.4 in
      let less : v.place < after.place = omega (arith, place, from, header_some roots) in
      let first : told_by v after new code ≡ (pos 11, offsets w.place (header_places 0 roots)) = moved v after new code less (ap (λ x. x.step) h.4) ∙ (λ i. (h.3 i, (ap (offsets v.place) h.5 ∙ further n v.place w.place roots from) i)) in
      let sections = tell_sections unjudged file calls wanting (after_header w roots) m.1 refl (stands_after file (header_bytes roots) (h.1 ++ tail.0) w.place w.end w.version wanting whole at.stands) (subst (λ x. Tell unjudged file x calls m.1) h.4 m.3) in
      subst (AreToldOf unjudged file) (sym m.2) (inr (
        w.place,
        part_of file w.place w.end,
        wanting,
        at.begins,
        at.holds,
        inl (
          roots,
          h.1 ++ tail.0,
          (h.2.0, whole),
          first,
          subst (λ x. AreToldOfSections unjudged wanting (w.place + length (header_bytes roots)) x m.1) (part_after file (header_bytes roots) (h.1 ++ tail.0) w.place w.end whole).1 sections,
        ),
      ))
  one_header how n v w after b more old new code told at from hand none (inr f) (inl m) next = next told (subst (λ x. Tell unjudged file x calls told) f.4 m.1)
  one_header how n v w after b more old new code told at from hand none (inr f) (inr m) next =
      let why = told_fault f.0 (may_grow (is_last how) w b) (header_code f.0) (λ ten. m.0 (f.3 ∙ ten)) in
      let tail = goes_on (w.end - w.place) b more in
      let whole : part_of file w.place w.end ≡ shown w b ++ tail.0 = ap (take (w.end - w.place)) hand ∙ tail.1 in
      let all : f.0 ≡ Truncated → part_of file w.place w.end ≡ shown w b = λ cut. ap (take (w.end - w.place)) hand ∙ stops_there (is_last how) (w.end - w.place) b more none (why.1 cut) in
      let stays = header_fault_on f.0 (shown w b) (part_of file w.place w.end) tail.0 whole all f.1 f.2 in
      let is : code ≡ header_code f.0 = f.3 ∙ why.0 in
      let first : told_by v after new code ≡ (header_code f.0, w.place ∷ []) = not_begun v after new code (ap (λ x. x.step) f.4 ∙ at.step) ∙ (λ i. (is i, (f.4 i).place ∷ [])) in
      subst (AreToldOf unjudged file) (sym m.2) (inr (w.place, part_of file w.place w.end, wanting, at.begins, at.holds, inr (f.0, stays, first, next m.1 (subst (λ x. Tell unjudged file x calls m.1) f.4 m.3))))

-- what a call returns before the header, if the version is known
at_header : (how : ℕ) (file : List ℕ) (wanting : ℕ) (w after : CarWalk) (b old new : List ℕ) (code : ℤ) → w.step ≡ 0 → Stands file w.place w.end w.version wanting → IsNextAnswer how w b old after new code → IsHeaderStep (is_last how) 0 w b old after new code
at_header how file wanting w after b old new code step stands (inl h) = absurd (h.0 step)
at_header how file wanting w after b old new code step stands (inr (inl h)) = h.2
at_header how file wanting w after b old new code step (inl k) (inr (inr h)) = absurd (omega (arith, h.1, k.0))
at_header how file wanting w after b old new code step (inr k) (inr (inr h)) = absurd (omega (arith, h.1, k.0))

tell_header : (unjudged : Bool) (file : List ℕ) (calls : List Call) (wanting : ℕ) (w : CarWalk) (told : List Told) → IsAtCar file w wanting → Tell unjudged file w calls told → AreToldOf unjudged file told
tell_header unjudged file [] wanting w told at t = subst (AreToldOf unjudged file) (sym t) tt
tell_header unjudged file (call ∷ calls) wanting w told at t =
    one_header unjudged file calls wanting call.1 0 w w t.0 call.0 t.4.0 t.1 t.2 t.3 told at (omega arith) t.4.1 t.4.2 (at_header call.1 file wanting w t.0 call.0 t.1 t.2 t.3 at.step at.stands t.6) t.7 (λ more k. tell_header unjudged file calls wanting w more at k)

-- ---- at the front

-- the walk through a file of version 1
first_car : (file b more : List ℕ) → length file < 2 ^ 64 → file ≡ b ++ more → ¬ MayBeVersion2 b → IsAtCar file (of_version_1 fresh) 0
first_car file b more fits is not_second = record {
  step = refl;
  begins = inl (may_not, refl);
  holds = inl (other, take_all (2 ^ 64 - 1) file (omega (arith, fits)), refl);
  stands = inl (refl, refl);
}
  where
    may_not : ¬ MayBeVersion2 file
    may_not m = not_second (more ++ m.0, subst IsVersion2 (ap (λ x. x ++ m.0) is ∙ append_assoc b more m.0) m.1)

    other : ¬ IsVersion2 file
    other v = may_not ([], subst IsVersion2 (sym (append-nil file)) v)

-- the walk through a file of version 2, at the file of version 1 in it
second_car : (file b more : List ℕ) → file ≡ b ++ more → HasSpan b → IsAtCar file (of_version_2 fresh b) (length_of b - length (part_of file (0 + begin_of b) (0 + (begin_of b + length_of b))))
second_car file b more is span = record {
  step = refl;
  begins = inr (whole, omega (arith, begin));
  holds = inr (whole, part, ap (λ n. n - length (part_of file (0 + begin_of b) (0 + (begin_of b + length_of b)))) (sym long));
  stands = inr (refl, omega arith, ap (λ n. n - length (part_of file (0 + begin_of b) (0 + (begin_of b + length_of b)))) (sym size));
}
  where
    whole : HasSpan file
    whole = subst HasSpan (sym is) (span_on b more span)

    begin : begin_of file ≡ begin_of b
    begin = ap begin_of is ∙ number_on 27 b more (omega (arith, span.whole))

    long : length_of file ≡ length_of b
    long = ap length_of is ∙ number_on 35 b more (omega (arith, span.whole))

    size : (0 + (begin_of b + length_of b)) - (0 + begin_of b) ≡ length_of b
    size = omega arith

    start : 0 + begin_of b ≡ begin_of file
    start = omega (arith, begin)

    part : part_of file (0 + begin_of b) (0 + (begin_of b + length_of b)) ≡ take (length_of file) (drop (begin_of file) file)
    part = (λ i. take ((size ∙ sym long) i) (drop (start i) file))

module _ (unjudged : Bool) (file : List ℕ) (call : Call) (calls : List Call) (fits : length file < 2 ^ 64) where
  one_front : (after : CarWalk) (old new : List ℕ) (code : ℤ) (told : List Told) → IsOfFile file fresh call → IsFrontStep (is_last call.1) fresh call.0 old after new code → Next unjudged file calls fresh after new code told
      → ((told : List Told) → Tell unjudged file fresh calls told → AreToldOf unjudged file told) → AreToldOf unjudged file told
  one_front after old new code told hand (inl h) m next =
      let at = first_car file call.0 hand.0 fits hand.1 h.0 in
      one_header unjudged file calls 0 call.1 0 fresh (of_version_1 fresh) after call.0 hand.0 old new code told at refl hand.1 hand.2 h.1 m (λ more k. tell_header unjudged file calls 0 (of_version_1 fresh) more at k)
  one_front after old new code told hand (inr (inl h)) m next =
      let n = begin_of call.0 in
      let at = second_car file call.0 hand.0 hand.1 h.0.0 in
      let less : 0 + begin_of call.0 ≡ begin_of call.0 = omega arith in
      let rest : drop (0 + begin_of call.0) file ≡ drop (begin_of call.0) call.0 ++ drop (begin_of call.0 - length call.0) hand.0 = (λ i. drop (less i) (hand.1 i)) ∙ drop_on (begin_of call.0) call.0 hand.0 in
      let none : is_last call.1 ≡ true → drop (begin_of call.0 - length call.0) hand.0 ≡ [] = λ last. ap (drop (begin_of call.0 - length call.0)) (hand.2 last) ∙ drop-nil (begin_of call.0 - length call.0) in
      one_header unjudged file calls _ call.1 n fresh (of_version_2 fresh call.0) after (drop n call.0) (drop (n - length call.0) hand.0) old new code told at refl rest none h.1 m (λ more k. tell_header unjudged file calls _ (of_version_2 fresh call.0) more at k)
  one_front after old new code told hand (inr (inr (inl h))) m next = absurd (h.1 (h.0, omega (arith, h.0.end)))
  one_front after old new code told hand (inr (inr (inr f))) (inl m) next = next told (subst (λ x. Tell unjudged file x calls told) f.3 m.1)
  one_front after old new code told hand (inr (inr (inr f))) (inr m) next =
      let why = told_fault f.0 (not (is_last call.1)) (fault_code f.0) (λ ten. m.0 (f.2 ∙ ten)) in
      let all : f.0 ≡ Truncated → hand.0 ≡ [] = λ cut. hand.2 (is_not (is_last call.1) (why.1 cut)) in
      let stays = subst (SpanRefused f.0) (sym hand.1) (span_fault_on f.0 call.0 hand.0 all f.1) in
      let is : code ≡ fault_code f.0 = f.2 ∙ why.0 in
      let same : after.place ≡ 0 = ap (λ x. x.place) f.3 in
      let first : told_by fresh after new code ≡ (fault_code f.0, 0 ∷ []) = stayed fresh after new code (omega (arith, same)) ∙ (λ i. (is i, same i ∷ [])) in
      subst (AreToldOf unjudged file) (sym m.2) (inl (f.0, stays, first, next m.1 (subst (λ x. Tell unjudged file x calls m.1) f.3 m.3)))
    where
      is_not : (x : Bool) → not x ≡ false → x ≡ true
      is_not true h = refl
      is_not false h = absurd (cc h)

-- what the first calls return
at_front : (how : ℕ) (after : CarWalk) (b old new : List ℕ) (code : ℤ) → IsNextAnswer how fresh b old after new code → IsFrontStep (is_last how) fresh b old after new code
at_front how after b old new code (inl h) = absurd (h.0 refl)
at_front how after b old new code (inr (inl h)) = absurd (h.1 refl)
at_front how after b old new code (inr (inr h)) = h.2

pub walks_are_exact : WalksAreExact
walks_are_exact unjudged file [] told fits t = subst (AreToldOf unjudged file) (sym t) tt
walks_are_exact unjudged file (call ∷ calls) told fits t =
    one_front unjudged file call calls fits t.0 t.1 t.2 t.3 told t.4 (at_front call.1 t.0 call.0 t.1 t.2 t.3 t.6) t.7 (λ more k. walks_are_exact unjudged file calls more fits k)

-- ---- the last bytes

last_told : (e : CarError Infallible) (more : Bool) (code : ℤ) → more ≡ false → code ≢ pos 10 → code_or_more e more code ≢ pos 10
last_told Truncated true code none other h = absurd (cc none)
last_told Truncated false code none other h = other h
last_told e more code none other h = other h

no_growth : (last : Bool) (w : CarWalk) (b : List ℕ) → last ≡ true → may_grow last w b ≡ false
no_growth last w b is = ap (λ x. may_grow x w b) is

last_section : (last unjudged : Bool) (w after : CarWalk) (b old new : List ℕ) (code : ℤ) → last ≡ true → IsSectionStep last unjudged w b old after new code → code ≢ pos 10
last_section last unjudged w after b old new code is (inl h) e = (let clash = sym h.1 ∙ e in absurd (cc clash))
last_section last unjudged w after b old new code is (inr (inl h)) e = section_not_more unjudged h.0 code h.3 e
last_section last unjudged w after b old new code is (inr (inr h)) e = last_told h.0 (may_grow last w b) (fault_code h.0) (no_growth last w b is) (fault_below h.0 10) (sym h.4 ∙ e)

last_header : (last : Bool) (n : ℕ) (w after : CarWalk) (b old new : List ℕ) (code : ℤ) → last ≡ true → IsHeaderStep last n w b old after new code → code ≢ pos 10
last_header last n w after b old new code is (inl h) e = (let clash = sym h.3 ∙ e in absurd (cc clash))
last_header last n w after b old new code is (inr h) e = last_told h.0 (may_grow last w b) (header_code h.0) (no_growth last w b is) (header_below h.0 10) (sym h.3 ∙ e)

pub last_needs_no_more : LastNeedsNoMore
last_needs_no_more how w after b old new code is (inl h) e = last_section (is_last how) (is_unjudged how) w after b old new code is h.1 e
last_needs_no_more how w after b old new code is (inr (inl h)) e = last_header (is_last how) 0 w after b old new code is h.2 e
last_needs_no_more how w after b old new code is (inr (inr h)) e = by h.2 e
  where
    by : IsFrontStep (is_last how) w b old after new code → code ≢ pos 10
    by (inl k) e = last_header (is_last how) 0 (of_version_1 w) after b old new code is k.1 e
    by (inr (inl k)) e = last_header (is_last how) (begin_of b) (of_version_2 w b) after (drop (begin_of b) b) old new code is k.1 e
    by (inr (inr (inl k))) e = (let clash = sym k.2 ∙ e in absurd (cc clash))
    by (inr (inr (inr k))) e = last_told k.0 (not (is_last how)) (fault_code k.0) (ap not is) (fault_below k.0 10) (sym k.2 ∙ e)
