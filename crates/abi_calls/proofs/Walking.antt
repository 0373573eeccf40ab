-- What comes next in a CAR file.
use Rattle.std.proofs.Common.{◌≡◌, ◌≢◌, inl, inr, ℕ, ◌+◌, ◌-◌, ◌<◌, ◌≤◌, ◌^◌, min, Bool, ℤ, List, [], length, take, drop, refl, sym, ap, ◌∙◌, subst, arith, length-append, length-take, length-drop, take_all}
use Rattle.std.proofs.lemmas.Bool.{cases_lt}
use Rattle.std.proofs.Math.ListN.{drop_of_length-le}
use Rattle.std.specs.declared.convert.Infallible.{Infallible}
use Rattle.files_car.specs.Car.{Section, section_bytes, header_bytes}
use Rattle.files_car.specs.Splits.{SplitsSection, BeginsNoHeader, HeaderFault, HeaderRefused}
use Rattle.files_car.specs.Versions.{begin_of, length_of, HasSpan}
use Rattle.files_car.specs.declared.error.CarError.{CarError}
use Rattle.files_car.specs.declared.error.CarError.TheVariants.{OutOfMemory}
use Rattle.abi_calls.specs.Sections.{section_places}
use Rattle.abi_calls.specs.Walks.{shown, IsHeaderStep, IsSectionCode, IsSectionStep, of_version_2, IsFrontStep}
use Rattle.abi_calls.specs.declared.walk.CarWalk.{CarWalk}
use Rattle.abi_calls.proofs.WalkRuns.{header_some}

-- the call does not run out of memory
pub header_refused : (e : CarError Infallible) (b : List ℕ) → HeaderRefused e b → e ≢ OutOfMemory → BeginsNoHeader b × HeaderFault e b
header_refused OutOfMemory b h other = absurd (other refl)
header_refused e b h other = h

pub section_next : (last unjudged : Bool) (w : CarWalk) (b sh rest old new : List ℕ) (s : Section) (code : ℤ) → sh ≡ shown w b → SplitsSection sh s rest → IsSectionCode unjudged s code → new ≡ section_places s → IsSectionStep last unjudged w b old (record w { place = w.place + (length sh - length rest) }) new code
section_next last unjudged w b sh rest old new s code is h judged places =
    let len : length sh - length rest ≡ length (section_bytes s) = omega (arith, ap length h.1, length-append (section_bytes s) rest) in
    inr (inl (s, rest, subst (λ x. SplitsSection x s rest) is h, judged, (λ i. record w { place = w.place + len i }), places))

-- the bytes before the file of version 1 are passed, as far as they are at hand
pub part_next : (last : Bool) (w after : CarWalk) (b old new : List ℕ) (code : ℤ) (passed : ℕ) → passed ≡ min (length b) (begin_of b) → IsHeaderStep last passed (of_version_2 w b) (drop passed b) old after new code → IsHeaderStep last (begin_of b) (of_version_2 w b) (drop (begin_of b) b) old after new code
part_next last w after b old new code passed is h = elim (cases_lt (length b) (begin_of b)) [ inl short ↦ none short h | inr long ↦ all long ]
  where
    all : begin_of b ≤ length b → IsHeaderStep last (begin_of b) (of_version_2 w b) (drop (begin_of b) b) old after new code
    all long =
        let same : passed ≡ begin_of b = omega (arith, is, long) in
        subst (λ n. IsHeaderStep last n (of_version_2 w b) (drop n b) old after new code) same h

    empty : (n : ℕ) → length b ≤ n → drop n b ≡ []
    empty n far = drop_of_length-le b far

    none : length b < begin_of b → IsHeaderStep last passed (of_version_2 w b) (drop passed b) old after new code → IsHeaderStep last (begin_of b) (of_version_2 w b) (drop (begin_of b) b) old after new code
    none short (inl f) =
        let gone = empty passed (omega (arith, is, short)) in
        absurd (omega (arith, ap length f.2.1, header_some f.0, length-append (header_bytes f.0) f.1, length-take ((of_version_2 w b).end - (of_version_2 w b).place) (drop passed b), ap length gone))
    none short (inr f) =
        let same : drop passed b ≡ drop (begin_of b) b = empty passed (omega (arith, is, short)) ∙ sym (empty (begin_of b) (omega (arith, short))) in
        subst (λ x. IsHeaderStep last (begin_of b) (of_version_2 w b) x old after new code) same (inr f)

-- what follows n bytes
pub rest_of : (n : ℕ) (b : List ℕ) → take (length b - n) (drop n b) ≡ drop n b
rest_of n b = take_all (length b - n) (drop n b) (omega (arith, length-drop n b))

pub span_next : (last : Bool) (w after : CarWalk) (b x old new : List ℕ) (code : ℤ) (begin len end passed : ℕ) → HasSpan b → begin ≡ begin_of b → len ≡ length_of b → (w.place + (begin + len) < 2 ^ 64) × (end ≡ w.place + (begin + len)) → passed ≡ min (length b) begin → x ≡ drop passed b
    → IsHeaderStep last passed (record w { place = w.place + begin; end = end; version = 2 }) x old after new code → IsFrontStep last w b old after new code
span_next last w after b x old new code begin len end passed span p q sum few is h =
    let fits : w.place + (begin_of b + length_of b) < 2 ^ 64 = omega (arith, p, q, sum.0) in
    let stop : end ≡ w.place + (begin_of b + length_of b) = omega (arith, p, q, sum.1) in
    let many : passed ≡ min (length b) (begin_of b) = omega (arith, p, few) in
    let here : IsHeaderStep last passed (of_version_2 w b) (drop passed b) old after new code = subst (λ y. IsHeaderStep last passed (of_version_2 w b) y old after new code) is (subst (λ v. IsHeaderStep last passed v x old after new code) (λ i. record w { place = w.place + p i; end = stop i; version = 2 }) h) in
    inr (inl ((span, fits), part_next last w after b old new code passed many here))
