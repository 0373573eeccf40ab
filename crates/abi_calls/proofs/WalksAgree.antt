-- What calls report of a CAR file is determined by the file, wherever it is cut.
use Rattle.std.proofs.Common.{◌≡◌, ◌≢◌, ◌⊎◌, inl, inr, ℕ, ◌+◌, Bool, true, false, ℤ, pos, negsuc, List, [], ◌∷◌, ◌++◌, length, length-append, refl, sym, ap, ◌∙◌, subst, arith, append-nil}
use Rattle.std.specs.declared.convert.Infallible.{Infallible}
use Rattle.ipld_tree.specs.CidFault.{IsNoVarint}
use Rattle.dagcbor_decode.specs.Decode.{decode}
use Rattle.dagcbor_decode.specs.Verdicts.{IsRefusedFor}
use Rattle.dagcbor_decode.proofs.Complete.{block_reads}
use Rattle.dagcbor_decode.proofs.Laws.{refused_no_block}
use Rattle.ipld_links.specs.Verdicts.{IsVerified, IsTestable, IsVerdictOn, IsVerdict}
use Rattle.ipld_links.specs.declared.verdict.Verdict.{Verdict}
use Rattle.ipld_links.specs.declared.verdict.Verdict.TheVariants as verdicts
use Rattle.files_car.specs.Car.{Section, section_bytes, header_bytes}
use Rattle.files_car.specs.Splits.{SplitsCounted, IsCutPart, SplitsSection, SectionFault, SplitsHeader, HeaderFault}
use Rattle.files_car.specs.Versions.{IsVersion2, HasSpan, MayBeVersion2, SpanFault, SpanRefused}
use Rattle.files_car.specs.Sources.{RefusesHeader}
use Rattle.files_car.specs.declared.error.CarError.{CarError}
use Rattle.files_car.specs.declared.error.CarError.TheVariants.{Truncated, InvalidLength, InvalidCid, InvalidOffset, NoBlock, OtherHeader}
use Rattle.files_car.proofs.Cars.{counted_unique, section_unique, section_some, header_unique}
use Rattle.files_car.proofs.Counts.{no_counted}
use Rattle.files_car.proofs.Starting.{holds_one}
use Rattle.abi_calls.specs.Codes.{kind_code, check_code, decoded_code, verdict_code, fault_code, header_code}
use Rattle.abi_calls.specs.Sections.{section_places}
use Rattle.abi_calls.specs.Walks.{IsSectionCode, header_places}
use Rattle.abi_calls.specs.WalkRuns.{offsets, Told, AreToldOfSections, BeginsAt, AreToldOf, AreAlike, ToldAreUnique, CutsAgree}
use Rattle.abi_calls.proofs.Decoding.{refusal_told}
use Rattle.abi_calls.proofs.WalkRuns.{walks_are_exact}

-- ---- one verdict

abbrev IsRead : ℕ → List ℕ → ℤ → Type 0
IsRead codec b code = ((codec ≡ 0x71) × (code ≡ check_code b)) ⊎ ((codec ≢ 0x71) × (code ≡ pos 9))

-- the number of the verdict on bytes as a block of the codec
read_told : (codec : ℕ) (b : List ℕ) (v : Verdict) → IsVerdictOn codec b v → IsRead codec b (verdict_code v)
read_told codec b (verdicts.Block kind) h = inl (h.0, ap kind_code h.1.2 ∙ ap decoded_code (sym (block_reads b h.1.0 h.1.1.0 h.1.1.1)))
read_told codec b (verdicts.Refused e) h = (let k = refusal_told b e h.1 in inl (h.0, k.3 ∙ ap decoded_code (sym k.2)))
read_told codec b verdicts.Node h = inr (λ is. omega (arith, is, h.0), refl)
read_told codec b (verdicts.NoNode e) h = inr (λ is. omega (arith, is, h.0), refl)
read_told codec b verdicts.NotRead h = inr (λ is. omega (arith, is, h), refl)
read_told codec b verdicts.LinksNotRead h = inr (λ is. h.1 (inl is), refl)
read_told codec b _ h = absurd h

-- the number of the verdict on a block under a name
abbrev IsToldAs : Section → ℤ → Type 0
IsToldAs s code = (IsTestable s.0 × (¬ IsVerified s) × (code ≡ negsuc 21))
    ⊎ (((¬ IsTestable s.0) × (code ≡ negsuc 22)) ⊎ (IsVerified s × IsRead s.0.codec s.1 code))

testable : (s : Section) → IsVerified s → IsTestable s.0
testable s (inl h) = inl h.0
testable s (inr h) = inr h.0

verdict_told : (s : Section) (v : Verdict) → IsVerdict s v → IsToldAs s (verdict_code v)
verdict_told s verdicts.OtherBytes h = inl (h.0, h.1, refl)
verdict_told s verdicts.Unverified h = inr (inl (h, refl))
verdict_told s v h = inr (inr (h.0, read_told s.0.codec s.1 v h.1))

one_read : (codec : ℕ) (b : List ℕ) (x y : ℤ) → IsRead codec b x → IsRead codec b y → x ≡ y
one_read codec b x y (inl h) (inl k) = h.1 ∙ sym k.1
one_read codec b x y (inl h) (inr k) = absurd (k.0 h.0)
one_read codec b x y (inr h) (inl k) = absurd (h.0 k.0)
one_read codec b x y (inr h) (inr k) = h.1 ∙ sym k.1

one_told : (s : Section) (x y : ℤ) → IsToldAs s x → IsToldAs s y → x ≡ y
one_told s x y (inl h) (inl k) = h.2 ∙ sym k.2
one_told s x y (inl h) (inr (inl k)) = absurd (k.0 h.0)
one_told s x y (inl h) (inr (inr k)) = absurd (h.1 k.0)
one_told s x y (inr (inl h)) (inl k) = absurd (h.0 k.0)
one_told s x y (inr (inl h)) (inr (inl k)) = h.1 ∙ sym k.1
one_told s x y (inr (inl h)) (inr (inr k)) = absurd (h.0 (testable s k.0))
one_told s x y (inr (inr h)) (inl k) = absurd (k.1 h.0)
one_told s x y (inr (inr h)) (inr (inl k)) = absurd (k.0 (testable s h.0))
one_told s x y (inr (inr h)) (inr (inr k)) = one_read s.0.codec s.1 x y h.1 k.1

pub one_code : (unjudged : Bool) (s : Section) (x y : ℤ) → IsSectionCode unjudged s x → IsSectionCode unjudged s y → x ≡ y
one_code true s x y h k = h ∙ sym k
one_code false s x y h k = h.2 ∙ one_told s (verdict_code h.0) (verdict_code k.0) (verdict_told s h.0 h.1) (verdict_told s k.0 k.1) ∙ sym k.2

-- ---- one fault

pub cut_or_none : (b : List ℕ) → IsCutPart b → IsNoVarint b → ⊥
cut_or_none b (inl h) none = none h.0 h.1 [] h.2 (h.4 ∙ sym (append-nil _))
cut_or_none b (inr h) none = none h.0 [] h.1 h.2 (append-nil b ∙ h.4)

pub one_fault : (e f : CarError Infallible) (b : List ℕ) → SectionFault e b → SectionFault f b → fault_code e ≡ fault_code f
one_fault Truncated Truncated b h k = refl
one_fault Truncated InvalidLength b h k = absurd (cut_or_none b h k)
one_fault Truncated (InvalidCid g) b h k = absurd (no_counted {E = Infallible} Truncated b k.0 k.1 h k.2)
one_fault InvalidLength Truncated b h k = absurd (cut_or_none b k h)
one_fault InvalidLength InvalidLength b h k = refl
one_fault InvalidLength (InvalidCid g) b h k = absurd (no_counted {E = Infallible} InvalidLength b k.0 k.1 h k.2)
one_fault (InvalidCid g) Truncated b h k = absurd (no_counted {E = Infallible} Truncated b h.0 h.1 k h.2)
one_fault (InvalidCid g) InvalidLength b h k = absurd (no_counted {E = Infallible} InvalidLength b h.0 h.1 k h.2)
one_fault (InvalidCid g) (InvalidCid i) b h k = refl
one_fault Truncated _ b h k = absurd k
one_fault InvalidLength _ b h k = absurd k
one_fault (InvalidCid g) _ b h k = absurd k
one_fault _ f b h k = absurd h

same_inner : (b x y rest more : List ℕ) → SplitsCounted b x rest → SplitsCounted b y more → x ≡ y
same_inner b x y rest more h k = (counted_unique x y rest more h.0 k.0 (sym h.1 ∙ k.1)).0

pub one_header_fault : (e f : CarError Infallible) (b : List ℕ) → HeaderFault e b → HeaderFault f b → header_code e ≡ header_code f
one_header_fault (NoBlock r) (NoBlock q) b h k =
    let same = same_inner b h.0 k.0 h.1 k.1 h.2 k.2 in
    let x = refusal_told h.0 r h.3 in
    let y = refusal_told k.0 q k.3 in
    x.3 ∙ ap decoded_code (sym x.2 ∙ ap decode same ∙ y.2) ∙ sym y.3
one_header_fault (NoBlock r) OtherHeader b h k =
    let same = same_inner b h.0 k.0 h.1 k.1 h.2 k.2 in
    absurd (refused_no_block k.0 r k.3.0 (subst (λ x. IsRefusedFor x r) same h.3) k.3.1)
one_header_fault OtherHeader (NoBlock q) b h k =
    let same = same_inner b k.0 h.0 k.1 h.1 k.2 h.2 in
    absurd (refused_no_block h.0 q h.3.0 (subst (λ x. IsRefusedFor x q) same k.3) h.3.1)
one_header_fault OtherHeader OtherHeader b h k = refl
one_header_fault (NoBlock r) Truncated b h k = absurd (no_counted {E = Infallible} Truncated b h.0 h.1 k h.2)
one_header_fault (NoBlock r) InvalidLength b h k = absurd (no_counted {E = Infallible} InvalidLength b h.0 h.1 k h.2)
one_header_fault OtherHeader Truncated b h k = absurd (no_counted {E = Infallible} Truncated b h.0 h.1 k h.2)
one_header_fault OtherHeader InvalidLength b h k = absurd (no_counted {E = Infallible} InvalidLength b h.0 h.1 k h.2)
one_header_fault Truncated (NoBlock q) b h k = absurd (no_counted {E = Infallible} Truncated b k.0 k.1 h k.2)
one_header_fault InvalidLength (NoBlock q) b h k = absurd (no_counted {E = Infallible} InvalidLength b k.0 k.1 h k.2)
one_header_fault Truncated OtherHeader b h k = absurd (no_counted {E = Infallible} Truncated b k.0 k.1 h k.2)
one_header_fault InvalidLength OtherHeader b h k = absurd (no_counted {E = Infallible} InvalidLength b k.0 k.1 h k.2)
one_header_fault Truncated Truncated b h k = refl
one_header_fault Truncated InvalidLength b h k = absurd (cut_or_none b h k)
one_header_fault InvalidLength Truncated b h k = absurd (cut_or_none b k h)
one_header_fault InvalidLength InvalidLength b h k = refl
one_header_fault (NoBlock r) _ b h k = absurd k
one_header_fault OtherHeader _ b h k = absurd k
one_header_fault Truncated _ b h k = absurd k
one_header_fault InvalidLength _ b h k = absurd k
one_header_fault _ f b h k = absurd h

pub one_span_fault : (e f : CarError Infallible) (b : List ℕ) → SpanRefused e b → SpanRefused f b → fault_code e ≡ fault_code f
one_span_fault e f b (inl h) (inl k) = ap fault_code (h.0 ∙ sym k.0)
one_span_fault e f b (inl h) (inr k) = ap fault_code h.0 ∙ by f k
  where
    by : (f : CarError Infallible) → SpanFault f b → negsuc 23 ≡ fault_code f
    by Truncated k = refl
    by InvalidOffset k = absurd (omega (arith, h.2, k.1))
    by _ k = absurd k
one_span_fault e f b (inr h) (inl k) = by e h ∙ sym (ap fault_code k.0)
  where
    by : (e : CarError Infallible) → SpanFault e b → fault_code e ≡ negsuc 23
    by Truncated h = refl
    by InvalidOffset h = absurd (omega (arith, k.2, h.1))
    by _ h = absurd h
one_span_fault e f b (inr h) (inr k) = by e f h k
  where
    by : (e f : CarError Infallible) → SpanFault e b → SpanFault f b → fault_code e ≡ fault_code f
    by Truncated Truncated h k = refl
    by Truncated InvalidOffset h k = absurd (omega (arith, h.1, k.1))
    by InvalidOffset Truncated h k = absurd (omega (arith, h.1, k.1))
    by InvalidOffset InvalidOffset h k = refl
    by Truncated _ h k = absurd k
    by InvalidOffset _ h k = absurd k
    by _ f h k = absurd h

-- ---- one list of reports

pub same_pair : {x y : ℤ} {p q : List ℕ} → x ≡ y → p ≡ q → ◌≡◌ {A = Told} (x, p) (y, q)
same_pair e f = λ i. (e i, f i)

pub section_or_end : (b : List ℕ) (s : Section) (rest : List ℕ) → SplitsSection b s rest → b ≡ [] → ⊥
section_or_end b s rest h none = omega (arith, ap length (sym none ∙ h.1), section_some s h.0, length-append (section_bytes s) rest)

sections_alike : (unjudged : Bool) (n place : ℕ) (b : List ℕ) (told others : List Told) → AreToldOfSections unjudged n place b told → AreToldOfSections unjudged n place b others → AreAlike told others
sections_alike unjudged n place b [] others h k = tt
sections_alike unjudged n place b (t ∷ told) [] h k = tt
sections_alike unjudged n place b (t ∷ told) (u ∷ others) (inl h) (inl k) =
    let same = section_unique h.0 k.0 h.1 k.1 h.2.0 k.2.0 (sym h.2.1 ∙ k.2.1) in
    let more = subst (λ rest. AreToldOfSections unjudged n (place + length (section_bytes k.0)) rest told) same.1 (subst (λ s. AreToldOfSections unjudged n (place + length (section_bytes s)) h.1 told) same.0 h.5) in (
      same_pair (one_code unjudged k.0 t.0 u.0 (subst (λ s. IsSectionCode unjudged s t.0) same.0 h.3) k.3) (h.4 ∙ ap (λ s. offsets place (section_places s)) same.0 ∙ sym k.4),
      sections_alike unjudged n (place + length (section_bytes k.0)) k.1 told others more k.5,
    )
sections_alike unjudged n place b (t ∷ told) (u ∷ others) (inl h) (inr (inl k)) = absurd (section_or_end b h.0 h.1 h.2 k.0)
sections_alike unjudged n place b (t ∷ told) (u ∷ others) (inl h) (inr (inr k)) = absurd (k.1.1 h.0 h.1 h.2)
sections_alike unjudged n place b (t ∷ told) (u ∷ others) (inr (inl h)) (inl k) = absurd (section_or_end b k.0 k.1 k.2 h.0)
sections_alike unjudged n place b (t ∷ told) (u ∷ others) (inr (inl h)) (inr (inl k)) = (h.2 ∙ sym k.2, sections_alike unjudged n place b told others h.3 k.3)
sections_alike unjudged n place b (t ∷ told) (u ∷ others) (inr (inl h)) (inr (inr k)) = absurd (omega (arith, k.1.0, h.1, ap length h.0))
sections_alike unjudged n place b (t ∷ told) (u ∷ others) (inr (inr h)) (inl k) = absurd (h.1.1 k.0 k.1 k.2)
sections_alike unjudged n place b (t ∷ told) (u ∷ others) (inr (inr h)) (inr (inl k)) = absurd (omega (arith, h.1.0, k.1, ap length k.0))
sections_alike unjudged n place b (t ∷ told) (u ∷ others) (inr (inr h)) (inr (inr k)) =
    (h.2 ∙ same_pair (one_fault h.0 k.0 b h.1.2 k.1.2) refl ∙ sym k.2, sections_alike unjudged n place b told others h.3 k.3)

pub has_span : (file : List ℕ) → HasSpan file → MayBeVersion2 file
has_span file h = ([], subst IsVersion2 (sym (append-nil file)) h.version)

one_begin : (file : List ℕ) (x y : ℕ) → BeginsAt file x → BeginsAt file y → x ≡ y
one_begin file x y (inl h) (inl k) = h.1 ∙ sym k.1
one_begin file x y (inl h) (inr k) = absurd (h.0 (has_span file k.0))
one_begin file x y (inr h) (inl k) = absurd (k.0 (has_span file h.0))
one_begin file x y (inr h) (inr k) = h.1 ∙ sym k.1

-- if the place of the file of version 1 is refused, it begins nowhere
pub untold : (e : CarError Infallible) (file : List ℕ) (begin : ℕ) → SpanRefused e file → BeginsAt file begin → ⊥
untold e file begin (inl h) (inl k) = k.0 h.1
untold e file begin (inl h) (inr k) = omega (arith, h.2, k.0.whole)
untold e file begin (inr h) (inl k) = k.0 ([], version e h)
  where
    version : (e : CarError Infallible) → SpanFault e file → IsVersion2 (file ++ [])
    version Truncated f = subst IsVersion2 (sym (append-nil file)) f.0
    version InvalidOffset f = subst IsVersion2 (sym (append-nil file)) f.0
    version _ f = absurd f
untold e file begin (inr h) (inr k) = by e h
  where
    by : (e : CarError Infallible) → SpanFault e file → ⊥
    by Truncated f = omega (arith, f.1, k.0.whole)
    by InvalidOffset f = elim f.2 [ inl low ↦ omega (arith, low, k.0.begin) | inr high ↦ omega (arith, high, k.0.end) ]
    by _ f = f

-- what is reported if the file of version 1 begins somewhere
abbrev pub AtCar : Bool → List ℕ → ℕ → List ℕ → ℕ → Told → List Told → Type 0
AtCar unjudged file begin car n t told = ((roots : List (List ℕ)) × (rest : List ℕ) × SplitsHeader car roots rest × (t ≡ (pos 11, offsets begin (header_places 0 roots))) × AreToldOfSections unjudged n (begin + length (header_bytes roots)) rest told)
    ⊎ ((e : CarError Infallible) × RefusesHeader e car × (t ≡ (header_code e, begin ∷ [])) × AreToldOf unjudged file told)

cars_alike : (unjudged : Bool) (file : List ℕ) (begin : ℕ) (car : List ℕ) (n : ℕ) (t u : Told) (told others : List Told) → (AreToldOf unjudged file told → AreToldOf unjudged file others → AreAlike told others) → AtCar unjudged file begin car n t told → AtCar unjudged file begin car n u others → AreAlike (t ∷ told) (u ∷ others)
cars_alike unjudged file begin car n t u told others next (inl h) (inl k) =
    let same = header_unique h.0 k.0 h.1 k.1 h.2.0 k.2.0 (sym h.2.1 ∙ k.2.1) in
    let more = subst (λ rest. AreToldOfSections unjudged n (begin + length (header_bytes k.0)) rest told) same.1 (subst (λ roots. AreToldOfSections unjudged n (begin + length (header_bytes roots)) h.1 told) same.0 h.4) in (
      h.3 ∙ same_pair refl (ap (λ roots. offsets begin (header_places 0 roots)) same.0) ∙ sym k.3,
      sections_alike unjudged n (begin + length (header_bytes k.0)) k.1 told others more k.4,
    )
cars_alike unjudged file begin car n t u told others next (inl h) (inr k) = absurd (k.1.0 h.0 h.1 h.2)
cars_alike unjudged file begin car n t u told others next (inr h) (inl k) = absurd (h.1.0 k.0 k.1 k.2)
cars_alike unjudged file begin car n t u told others next (inr h) (inr k) = (h.2 ∙ same_pair (one_header_fault h.0 k.0 car h.1.1 k.1.1) refl ∙ sym k.2, next h.3 k.3)

pub told_are_unique : ToldAreUnique
told_are_unique unjudged file [] others h k = tt
told_are_unique unjudged file (t ∷ told) [] h k = tt
told_are_unique unjudged file (t ∷ told) (u ∷ others) (inl h) (inl k) =
    (h.2 ∙ same_pair (one_span_fault h.0 k.0 file h.1 k.1) refl ∙ sym k.2, told_are_unique unjudged file told others h.3 k.3)
told_are_unique unjudged file (t ∷ told) (u ∷ others) (inl h) (inr k) = absurd (untold h.0 file k.0 h.1 k.3)
told_are_unique unjudged file (t ∷ told) (u ∷ others) (inr h) (inl k) = absurd (untold k.0 file h.0 k.1 h.3)
told_are_unique unjudged file (t ∷ told) (u ∷ others) (inr h) (inr k) =
    let begin = one_begin file h.0 k.0 h.3 k.3 in
    let same = holds_one file h.1 k.1 h.2 k.2 h.4 k.4 in
    let at = subst (λ x. AtCar unjudged file x k.1 k.2 t told) begin (subst (λ x. AtCar unjudged file h.0 x k.2 t told) same.0 (subst (λ x. AtCar unjudged file h.0 h.1 x t told) same.1 h.5)) in
    cars_alike unjudged file k.0 k.1 k.2 t u told others (told_are_unique unjudged file told others) at k.5

pub cuts_agree : CutsAgree
cuts_agree unjudged file calls more told others fits h k = told_are_unique unjudged file told others (walks_are_exact unjudged file calls told fits h) (walks_are_exact unjudged file more others fits k)
