-- What the first 51 bytes say about a file of version 2.
use Rattle.std.proofs.Common.{◌≡◌, ℕ, ◌+◌, ◌-◌, ◌<◌, ◌≤◌, ◌^◌, List, ◌++◌, length, take, drop, sym, ap, ◌∙◌, subst, arith, Option, None, Some}
use Rattle.std.proofs.lemmas.List.{take-append-drop, length-take, take-take}
use Rattle.files_car.specs.Versions.{number_after, begin_of, length_of, HasSpan}
use Rattle.files_car.specs.declared.version.Span.{Span}
use Rattle.files_car.proofs.Starting.{number_on, span_on}
use Rattle.program_index.specs.Spans.{IsSpanOf}

-- the first bytes of a file give its span
first_numbers : (b : List ℕ) (n : ℕ) → n + 8 ≤ 51 → 51 ≤ length b → number_after n (take 51 b) ≡ number_after n b
first_numbers b n fits whole = sym (number_on n (take 51 b) (drop 51 b) (omega (arith, length-take 51 b))) ∙ ap (number_after n) (take-append-drop 51 b)

whole_first : (b : List ℕ) → HasSpan b → HasSpan (take 51 b)
whole_first b h = record {
  version = take-take 11 51 b (omega arith) ∙ h.version;
  whole = omega (arith, h.whole, length-take 51 b);
  begin = subst (λ n. 51 ≤ n) (sym (first_numbers b 27 (omega arith) h.whole)) h.begin;
  end = subst (λ n. n + length_of (take 51 b) < 2 ^ 64) (sym (first_numbers b 27 (omega arith) h.whole)) (subst (λ n. begin_of b + n < 2 ^ 64) (sym (first_numbers b 35 (omega arith) h.whole)) h.end);
}

pub span_of_all : (b header : List ℕ) (found : Option Span) → header ≡ take (length header) (drop 0 b) → length header ≡ 51 → IsSpanOf header found → IsSpanOf b found
span_of_all b header None is long h = λ span. h (subst HasSpan (sym (is ∙ ap (λ n. take n b) long)) (whole_first b span))
span_of_all b header (Some s) is long h =
    let here : header ≡ take 51 b = is ∙ ap (λ n. take n b) long in
    let all : HasSpan b = subst HasSpan (ap (λ f. f ++ drop 51 b) here ∙ take-append-drop 51 b) (span_on header (drop 51 b) h.0) in
    (all, h.1 ∙ (ap begin_of here ∙ first_numbers b 27 (omega arith) all.whole), h.2 ∙ (ap length_of here ∙ first_numbers b 35 (omega arith) all.whole))
