-- A call that needs no more bytes answers the same if more are at hand.
use Rattle.std.proofs.Common.{◌≡◌, ◌≢◌, inl, inr, ℕ, ◌+◌, ◌-◌, ◌<◌, Bool, true, false, not, ℤ, pos, List, [], ◌∷◌, ◌++◌, length, take, drop, refl, sym, ap, ◌∙◌, subst, arith, append_assoc, append-nil, length-append, take_all, le-ltb, ltb-false}
use Rattle.std.proofs.Math.Seq.{drop-nil}
use Rattle.std.proofs.lemmas.Bool.{cases_lt}
use Rattle.std.specs.declared.convert.Infallible.{Infallible}
use Rattle.files_car.specs.Car.{section_bytes, header_bytes}
use Rattle.files_car.specs.Splits.{BeginsNoSection, SectionFault, BeginsNoHeader, HeaderFault}
use Rattle.files_car.specs.Versions.{IsVersion2, begin_of, length_of, HasSpan, MayBeVersion2, SpanFault, SpanRefused}
use Rattle.files_car.specs.declared.error.CarError.{CarError}
use Rattle.files_car.specs.declared.error.CarError.TheVariants.{Truncated, InvalidLength, InvalidCid, InvalidOffset, NoBlock, OtherHeader}
use Rattle.files_car.proofs.Cars.{section_unique, header_unique}
use Rattle.files_car.proofs.Counts.{no_counted}
use Rattle.files_car.proofs.Starting.{number_on, span_on}
use Rattle.abi_calls.specs.Codes.{fault_code, header_code}
use Rattle.abi_calls.specs.Sections.{section_places}
use Rattle.abi_calls.specs.Walks.{is_last, is_unjudged, shown, may_grow, code_or_more, header_places, after_header, IsHeaderStep, IsSectionCode, IsAtEnd, IsSectionStep, of_version_1, of_version_2, HasPart, IsFrontStep}
use Rattle.abi_calls.specs.WalkRuns.{MoreBytesAgree}
use Rattle.abi_calls.specs.declared.walk.CarWalk.{CarWalk}
use Rattle.abi_calls.proofs.WalkRuns.{goes_on, stops_there, drop_on, section_fault_on, header_fault_on, span_fault_on, told_fault, no_bytes_at_fault}
use Rattle.abi_calls.proofs.WalksAgree.{cut_or_none, one_code, one_fault, one_header_fault, one_span_fault, has_span, untold, section_or_end}

-- what both calls return
abbrev Same : CarWalk → CarWalk → List ℕ → List ℕ → ℤ → ℤ → Type 0
Same later after places new number code = (number ≡ code) × (later ≡ after) × (places ≡ new)

-- if no bytes follow, there are no more
abbrev IsLonger : Bool → Bool → List ℕ → Type 0
IsLonger last other more = last ≡ true → (more ≡ []) × (other ≡ true)

no_more : (last other : Bool) (more : List ℕ) → IsLonger last other more → last ≡ true → more ≡ []
no_more last other more h is = (h is).0

-- with more bytes at hand, no more may follow than before
grows_less : (last other : Bool) (w : CarWalk) (b more : List ℕ) → IsLonger last other more → may_grow last w b ≡ false → may_grow other w (b ++ more) ≡ false
grows_less true other w b more h stop = ap (λ x. may_grow x w (b ++ more)) (h refl).1
grows_less false true w b more h stop = refl
grows_less false false w b more h stop =
    let k = ltb-false (length b) (w.end - w.place) stop in
    le-ltb (length (b ++ more)) (w.end - w.place) (omega (arith, k, length-append b more))

plain_code : (f : CarError Infallible) (more : Bool) (code : ℤ) → (f ≡ Truncated → more ≡ false) → code_or_more f more code ≡ code
plain_code Truncated true code none = absurd (cc (none refl))
plain_code Truncated false code none = refl
plain_code f more code none = refl

-- bytes that end too early have no other fault
cut_section : (e f : CarError Infallible) (b : List ℕ) → SectionFault e b → SectionFault f b → f ≡ Truncated → e ≡ Truncated
cut_section e f b x y is = by e x (subst (λ g. SectionFault g b) is y)
  where
    by : (e : CarError Infallible) → SectionFault e b → SectionFault {E = Infallible} Truncated b → e ≡ Truncated
    by Truncated x y = refl
    by InvalidLength x y = absurd (cut_or_none b y x)
    by (InvalidCid g) x y = absurd (no_counted {E = Infallible} Truncated b x.0 x.1 y x.2)
    by _ x y = absurd x

cut_header : (e f : CarError Infallible) (b : List ℕ) → HeaderFault e b → HeaderFault f b → f ≡ Truncated → e ≡ Truncated
cut_header e f b x y is = by e x (subst (λ g. HeaderFault g b) is y)
  where
    by : (e : CarError Infallible) → HeaderFault e b → HeaderFault {E = Infallible} Truncated b → e ≡ Truncated
    by Truncated x y = refl
    by InvalidLength x y = absurd (cut_or_none b y x)
    by (NoBlock r) x y = absurd (no_counted {E = Infallible} Truncated b x.0 x.1 y x.2)
    by OtherHeader x y = absurd (no_counted {E = Infallible} Truncated b x.0 x.1 y x.2)
    by _ x y = absurd x

cut_span : (e f : CarError Infallible) (b : List ℕ) → SpanRefused e b → SpanRefused f b → f ≡ Truncated → e ≡ Truncated
cut_span e f b (inl x) y is = x.0
cut_span e f b (inr x) y is = by e x (short (subst (λ g. SpanRefused g b) is y))
  where
    short : SpanRefused {E = Infallible} Truncated b → length b < 51
    short (inl h) = h.2
    short (inr h) = h.1

    by : (e : CarError Infallible) → SpanFault e b → length b < 51 → e ≡ Truncated
    by Truncated x less = refl
    by InvalidOffset x less = absurd (omega (arith, x.1, less))
    by _ x less = absurd x

-- ---- sections

ended_shown : (last : Bool) (w : CarWalk) (b : List ℕ) → IsAtEnd last w b → shown w b ≡ []
ended_shown last w b (inl over) = (let zero : w.end - w.place ≡ 0 = omega (arith, over) in ap (λ k. take k b) zero)
ended_shown last w b (inr h) = ap (take (w.end - w.place)) h.1 ∙ take_all (w.end - w.place) [] (omega arith)

ended_on : (last other : Bool) (w : CarWalk) (b more : List ℕ) → IsLonger last other more → IsAtEnd last w b → IsAtEnd other w (b ++ more)
ended_on last other w b more h (inl over) = inl over
ended_on last other w b more h (inr k) = inr (k.0, (λ i. k.1 i ++ (h k.2).0 i), (h k.2).1)

not_ended_on : (last other : Bool) (w : CarWalk) (e : CarError Infallible) (b more : List ℕ) → ¬ IsAtEnd last w b → SectionFault e (shown w b) → (e ≡ Truncated → may_grow last w b ≡ false) → IsAtEnd other w (b ++ more) → ⊥
not_ended_on last other w e b more none f stop (inl over) = none (inl over)
not_ended_on last other w e (x ∷ b) more none f stop (inr k) = (let clash = k.1 in absurd (cc clash))
not_ended_on true other w e [] more none f stop (inr k) = none (inr (k.0, refl, refl))
not_ended_on false other w e [] more none f stop (inr k) = elim (cases_lt w.place w.end) [ inl less ↦ no_bytes_at_fault w e f stop less | inr over ↦ none (inl over) ]

section_longer : (last other unjudged : Bool) (w after later : CarWalk) (b more old new places : List ℕ) (code number : ℤ) → IsLonger last other more → code ≢ pos 10 → IsSectionStep last unjudged w b old after new code → IsSectionStep other unjudged w (b ++ more) old later places number → Same later after places new number code
section_longer last other unjudged w after later b more old new places code number longer enough (inl x) (inl y) = (y.1 ∙ sym x.1, y.2 ∙ sym x.2, y.3 ∙ sym x.3)
section_longer last other unjudged w after later b more old new places code number longer enough (inl x) (inr (inl y)) = absurd (section_or_end (shown w (b ++ more)) y.0 y.1 y.2 (ended_shown other w (b ++ more) (ended_on last other w b more longer x.0)))
section_longer last other unjudged w after later b more old new places code number longer enough (inl x) (inr (inr y)) = absurd (y.1 (ended_on last other w b more longer x.0))
section_longer last other unjudged w after later b more old new places code number longer enough (inr (inl x)) y =
    let tail = goes_on (w.end - w.place) b more in
    let whole : shown w (b ++ more) ≡ section_bytes x.0 ++ (x.1 ++ tail.0) = tail.1 ∙ ap (λ z. z ++ tail.0) x.2.1 ∙ append_assoc (section_bytes x.0) x.1 tail.0 in
    found (x.1 ++ tail.0) whole y
  where
    found : (rest : List ℕ) → shown w (b ++ more) ≡ section_bytes x.0 ++ rest → IsSectionStep other unjudged w (b ++ more) old later places number → Same later after places new number code
    found rest whole (inl y) = absurd (section_or_end (shown w (b ++ more)) x.0 rest (x.2.0, whole) (ended_shown other w (b ++ more) y.0))
    found rest whole (inr (inl y)) =
        let same : y.0 ≡ x.0 = (section_unique y.0 x.0 y.1 rest y.2.0 x.2.0 (sym y.2.1 ∙ whole)).0 in (
          one_code unjudged x.0 number code (subst (λ s. IsSectionCode unjudged s number) same y.3) x.3,
          y.4 ∙ (λ i. record w { place = w.place + length (section_bytes (same i)) }) ∙ sym x.4,
          y.5 ∙ ap section_places same ∙ sym x.5,
        )
    found rest whole (inr (inr y)) = absurd (y.2 x.0 rest (x.2.0, whole))
section_longer last other unjudged w after later b more old new places code number longer enough (inr (inr x)) y =
    let why = told_fault x.0 (may_grow last w b) (fault_code x.0) (λ ten. enough (x.4 ∙ ten)) in
    let tail = goes_on (w.end - w.place) b more in
    let all : x.0 ≡ Truncated → shown w (b ++ more) ≡ shown w b = λ cut. stops_there last (w.end - w.place) b more (no_more last other more longer) (why.1 cut) in
    let stays = section_fault_on x.0 (shown w b) (shown w (b ++ more)) tail.0 tail.1 all x.2 x.3 in
    by why stays.0 stays.1 y
  where
    by : (code_or_more x.0 (may_grow last w b) (fault_code x.0) ≡ fault_code x.0) × (x.0 ≡ Truncated → may_grow last w b ≡ false) → BeginsNoSection (shown w (b ++ more)) → SectionFault x.0 (shown w (b ++ more)) → IsSectionStep other unjudged w (b ++ more) old later places number → Same later after places new number code
    by why none fault (inl y) = absurd (not_ended_on last other w x.0 b more x.1 x.3 why.1 y.0)
    by why none fault (inr (inl y)) = absurd (none y.0 y.1 y.2)
    by why none fault (inr (inr y)) =
        let same = one_fault x.0 y.0 (shown w (b ++ more)) fault y.3 in
        let stop : y.0 ≡ Truncated → may_grow other w (b ++ more) ≡ false = λ cut. grows_less last other w b more longer (why.1 (cut_section x.0 y.0 (shown w (b ++ more)) fault y.3 cut)) in
        (y.4 ∙ plain_code y.0 (may_grow other w (b ++ more)) (fault_code y.0) stop ∙ sym same ∙ sym why.0 ∙ sym x.4, y.5 ∙ sym x.5, y.6 ∙ sym x.6)

-- ---- the header

header_longer : (last other : Bool) (n : ℕ) (w after later : CarWalk) (b more old new places : List ℕ) (code number : ℤ) → IsLonger last other more → code ≢ pos 10 → IsHeaderStep last n w b old after new code → IsHeaderStep other n w (b ++ more) old later places number → Same later after places new number code
header_longer last other n w after later b more old new places code number longer enough (inl x) y =
    let tail = goes_on (w.end - w.place) b more in
    let whole : shown w (b ++ more) ≡ header_bytes x.0 ++ (x.1 ++ tail.0) = tail.1 ∙ ap (λ z. z ++ tail.0) x.2.1 ∙ append_assoc (header_bytes x.0) x.1 tail.0 in
    found (x.1 ++ tail.0) whole y
  where
    found : (rest : List ℕ) → shown w (b ++ more) ≡ header_bytes x.0 ++ rest → IsHeaderStep other n w (b ++ more) old later places number → Same later after places new number code
    found rest whole (inl y) =
        let same : y.0 ≡ x.0 = (header_unique y.0 x.0 y.1 rest y.2.0 x.2.0 (sym y.2.1 ∙ whole)).0 in
        (y.3 ∙ sym x.3, y.4 ∙ ap (after_header w) same ∙ sym x.4, y.5 ∙ ap (header_places n) same ∙ sym x.5)
    found rest whole (inr y) = absurd (y.1 x.0 rest (x.2.0, whole))
header_longer last other n w after later b more old new places code number longer enough (inr x) y =
    let why = told_fault x.0 (may_grow last w b) (header_code x.0) (λ ten. enough (x.3 ∙ ten)) in
    let tail = goes_on (w.end - w.place) b more in
    let all : x.0 ≡ Truncated → shown w (b ++ more) ≡ shown w b = λ cut. stops_there last (w.end - w.place) b more (no_more last other more longer) (why.1 cut) in
    let stays = header_fault_on x.0 (shown w b) (shown w (b ++ more)) tail.0 tail.1 all x.1 x.2 in
    by why stays.0 stays.1 y
  where
    by : (code_or_more x.0 (may_grow last w b) (header_code x.0) ≡ header_code x.0) × (x.0 ≡ Truncated → may_grow last w b ≡ false) → BeginsNoHeader (shown w (b ++ more)) → HeaderFault x.0 (shown w (b ++ more)) → IsHeaderStep other n w (b ++ more) old later places number → Same later after places new number code
    by why none fault (inl y) = absurd (none y.0 y.1 y.2)
    by why none fault (inr y) =
        let same = one_header_fault x.0 y.0 (shown w (b ++ more)) fault y.2 in
        let stop : y.0 ≡ Truncated → may_grow other w (b ++ more) ≡ false = λ cut. grows_less last other w b more longer (why.1 (cut_header x.0 y.0 (shown w (b ++ more)) fault y.2 cut)) in
        (y.3 ∙ plain_code y.0 (may_grow other w (b ++ more)) (header_code y.0) stop ∙ sym same ∙ sym why.0 ∙ sym x.3, y.4 ∙ sym x.4, y.5 ∙ sym x.5)

-- ---- the front

may_less : (b more : List ℕ) → MayBeVersion2 (b ++ more) → MayBeVersion2 b
may_less b more h = (more ++ h.0, subst IsVersion2 (append_assoc b more h.0) h.1)

refused_may : (e : CarError Infallible) (b : List ℕ) → SpanRefused e b → MayBeVersion2 b
refused_may e b (inl h) = h.1
refused_may e b (inr f) = by e f
  where
    whole : IsVersion2 b → MayBeVersion2 b
    whole v = ([], subst IsVersion2 (sym (append-nil b)) v)

    by : (e : CarError Infallible) → SpanFault e b → MayBeVersion2 b
    by Truncated f = whole f.0
    by InvalidOffset f = whole f.0
    by _ f = absurd f

refused_or_span : (e : CarError Infallible) (b : List ℕ) → SpanRefused e b → HasSpan b → ⊥
refused_or_span e b r h = untold e b (begin_of b) r (inr (h, refl))

same_begin : (b more : List ℕ) → HasSpan b → begin_of (b ++ more) ≡ begin_of b
same_begin b more h = number_on 27 b more (omega (arith, h.whole))

same_length : (b more : List ℕ) → HasSpan b → length_of (b ++ more) ≡ length_of b
same_length b more h = number_on 35 b more (omega (arith, h.whole))

part_less : (w : CarWalk) (b more : List ℕ) → HasSpan b → HasPart w (b ++ more) → HasPart w b
part_less w b more h k = (h, (let p = same_begin b more h in let q = same_length b more h in omega (arith, p, q, k.1)))

part_on : (w : CarWalk) (b more : List ℕ) → HasPart w b → HasPart w (b ++ more)
part_on w b more h = (span_on b more h.0, (let p = same_begin b more h.0 in let q = same_length b more h.0 in omega (arith, p, q, h.1)))

-- the header of the file of version 1, by more bytes
part_longer : (last other : Bool) (w after later : CarWalk) (b more old new places : List ℕ) (code number : ℤ) → HasSpan b → IsLonger last other more → code ≢ pos 10 → IsHeaderStep last (begin_of b) (of_version_2 w b) (drop (begin_of b) b) old after new code
    → IsHeaderStep other (begin_of (b ++ more)) (of_version_2 w (b ++ more)) (drop (begin_of (b ++ more)) (b ++ more)) old later places number → Same later after places new number code
part_longer last other w after later b more old new places code number span longer enough x y =
    let p = same_begin b more span in
    let q = same_length b more span in
    let at : of_version_2 w (b ++ more) ≡ of_version_2 w b = λ i. record w { place = w.place + p i; end = w.place + (p i + q i); version = 2 } in
    let rest : drop (begin_of (b ++ more)) (b ++ more) ≡ drop (begin_of b) b ++ drop (begin_of b - length b) more = ap (λ n. drop n (b ++ more)) p ∙ drop_on (begin_of b) b more in
    let here = subst (λ n. IsHeaderStep other n (of_version_2 w b) (drop (begin_of b) b ++ drop (begin_of b - length b) more) old later places number) p (subst (λ z. IsHeaderStep other (begin_of (b ++ more)) (of_version_2 w b) z old later places number) rest (subst (λ v. IsHeaderStep other (begin_of (b ++ more)) v (drop (begin_of (b ++ more)) (b ++ more)) old later places number) at y)) in
    let less : IsLonger last other (drop (begin_of b - length b) more) = λ is. (ap (drop (begin_of b - length b)) (longer is).0 ∙ drop-nil (begin_of b - length b), (longer is).1) in
    header_longer last other (begin_of b) (of_version_2 w b) after later (drop (begin_of b) b) (drop (begin_of b - length b) more) old new places code number less enough x here

is_not : (x : Bool) → not x ≡ false → x ≡ true
is_not true h = refl
is_not false h = absurd (cc h)

front_longer : (last other : Bool) (w after later : CarWalk) (b more old new places : List ℕ) (code number : ℤ) → IsLonger last other more → code ≢ pos 10 → IsFrontStep last w b old after new code → IsFrontStep other w (b ++ more) old later places number → Same later after places new number code
front_longer last other w after later b more old new places code number longer enough (inl x) (inl y) = header_longer last other 0 (of_version_1 w) after later b more old new places code number longer enough x.1 y.1
front_longer last other w after later b more old new places code number longer enough (inl x) (inr (inl y)) = absurd (x.0 (may_less b more (has_span (b ++ more) y.0.0)))
front_longer last other w after later b more old new places code number longer enough (inl x) (inr (inr (inl y))) = absurd (x.0 (may_less b more (has_span (b ++ more) y.0)))
front_longer last other w after later b more old new places code number longer enough (inl x) (inr (inr (inr y))) = absurd (x.0 (may_less b more (refused_may y.0 (b ++ more) y.1)))
front_longer last other w after later b more old new places code number longer enough (inr (inl x)) (inl y) = absurd (y.0 (has_span (b ++ more) (span_on b more x.0.0)))
front_longer last other w after later b more old new places code number longer enough (inr (inl x)) (inr (inl y)) = part_longer last other w after later b more old new places code number x.0.0 longer enough x.1 y.1
front_longer last other w after later b more old new places code number longer enough (inr (inl x)) (inr (inr (inl y))) = absurd (y.1 (part_on w b more x.0))
front_longer last other w after later b more old new places code number longer enough (inr (inl x)) (inr (inr (inr y))) = absurd (refused_or_span y.0 (b ++ more) y.1 (span_on b more x.0.0))
front_longer last other w after later b more old new places code number longer enough (inr (inr (inl x))) (inl y) = absurd (y.0 (has_span (b ++ more) (span_on b more x.0)))
front_longer last other w after later b more old new places code number longer enough (inr (inr (inl x))) (inr (inl y)) = absurd (x.1 (part_less w b more x.0 y.0))
front_longer last other w after later b more old new places code number longer enough (inr (inr (inl x))) (inr (inr (inl y))) = (y.2 ∙ sym x.2, y.3 ∙ sym x.3, y.4 ∙ sym x.4)
front_longer last other w after later b more old new places code number longer enough (inr (inr (inl x))) (inr (inr (inr y))) = absurd (refused_or_span y.0 (b ++ more) y.1 (span_on b more x.0))
front_longer last other w after later b more old new places code number longer enough (inr (inr (inr x))) y =
    let why = told_fault x.0 (not last) (fault_code x.0) (λ ten. enough (x.2 ∙ ten)) in
    let all : x.0 ≡ Truncated → more ≡ [] = λ cut. no_more last other more longer (is_not last (why.1 cut)) in
    by why (span_fault_on x.0 b more all x.1) y
  where
    by : (code_or_more x.0 (not last) (fault_code x.0) ≡ fault_code x.0) × (x.0 ≡ Truncated → not last ≡ false) → SpanRefused x.0 (b ++ more) → IsFrontStep other w (b ++ more) old later places number → Same later after places new number code
    by why stays (inl y) = absurd (y.0 (refused_may x.0 (b ++ more) stays))
    by why stays (inr (inl y)) = absurd (refused_or_span x.0 (b ++ more) stays y.0.0)
    by why stays (inr (inr (inl y))) = absurd (refused_or_span x.0 (b ++ more) stays y.0)
    by why stays (inr (inr (inr y))) =
        let same = one_span_fault x.0 y.0 (b ++ more) stays y.1 in
        let stop : y.0 ≡ Truncated → not other ≡ false = λ cut. ap not (longer (is_not last (why.1 (cut_span x.0 y.0 (b ++ more) stays y.1 cut)))).1 in
        (y.2 ∙ plain_code y.0 (not other) (fault_code y.0) stop ∙ sym same ∙ sym why.0 ∙ sym x.2, y.3 ∙ sym x.3, y.4 ∙ sym x.4)

-- ---- all calls

pub more_bytes_agree : MoreBytesAgree
more_bytes_agree how other w after later b more old new places code number alike longer enough (inl x) (inl y) = section_longer (is_last how) (is_last other) (is_unjudged how) w after later b more old new places code number longer enough x.1 (subst (λ u. IsSectionStep (is_last other) u w (b ++ more) old later places number) alike y.1)
more_bytes_agree how other w after later b more old new places code number alike longer enough (inl x) (inr (inl y)) = absurd (x.0 y.0)
more_bytes_agree how other w after later b more old new places code number alike longer enough (inl x) (inr (inr y)) = absurd (x.0 y.0)
more_bytes_agree how other w after later b more old new places code number alike longer enough (inr (inl x)) (inl y) = absurd (y.0 x.0)
more_bytes_agree how other w after later b more old new places code number alike longer enough (inr (inl x)) (inr (inl y)) = header_longer (is_last how) (is_last other) 0 w after later b more old new places code number longer enough x.2 y.2
more_bytes_agree how other w after later b more old new places code number alike longer enough (inr (inl x)) (inr (inr y)) = absurd (x.1 y.1)
more_bytes_agree how other w after later b more old new places code number alike longer enough (inr (inr x)) (inl y) = absurd (y.0 x.0)
more_bytes_agree how other w after later b more old new places code number alike longer enough (inr (inr x)) (inr (inl y)) = absurd (y.1 x.1)
more_bytes_agree how other w after later b more old new places code number alike longer enough (inr (inr x)) (inr (inr y)) = front_longer (is_last how) (is_last other) w after later b more old new places code number longer enough x.2 y.2
