-- What is whole at the front of a slice, and is taken at once.
use Rattle.std.proofs.Common.{◌≡◌, ℕ, ◌+◌, ◌/◌, ◌<◌, ◌≤◌, ◌^◌, List, [], ◌∷◌, ◌++◌, length, take, drop, sym, ap, ap₂, ◌∙◌, subst, arith, length-append, append_assoc, take-append-drop, Some}
use Rattle.dagcbor_core.specs.Head.{head}
use Rattle.dagcbor_core.specs.Splits.{SplitsHead}
use Rattle.dagcbor_heads.specs.Reading.{Reading, Stays}
use Rattle.dagcbor_heads.specs.Fronts.{Takes, TakesHead}
use Rattle.dagcbor_heads.specs.Looking.{LooksAtTaken}
use Rattle.dagcbor_core.proofs.Heads.{Row, whole, one, two, four, eight, shape, length-bytes_high_first}
use Rattle.dagcbor_core.proofs.HeadForms.{begins}

-- the bytes that are left
same_left : (r : Reading) {b x : List ℕ} → r.left ≡ Some b → r.left ≡ Some x → x ≡ b
same_left r l k = cc

pub slice_takes : {old new : Reading} {b taken rest : List ℕ} → old.left ≡ Some b → new.left ≡ Some rest → Stays old new → b ≡ taken ++ rest → Takes old taken new
slice_takes {old} {new} {b} {taken} {rest} l m s e = record { taken = λ x k. (rest, same_left old l k ∙ e, m); same = s }

pub slice_head : {old new : Reading} {b following rest : List ℕ} {first major argument : ℕ} → old.left ≡ Some b → new.left ≡ Some rest → Stays old new → b ≡ first ∷ following → SplitsHead b major argument rest
    → TakesHead old major argument first new
slice_head {old} {new} {b} {following} {rest} {first} {major} {argument} l m s e h = record {
  major_fits = h.0;
  argument_fits = h.1;
  major_of_first = (begins first following major argument rest h.1 (sym e ∙ h.2)).major_is;
  starts = λ x k. (following, same_left old l k ∙ e);
  takes = slice_takes l m s h.2;
}

-- a head is of the major type of its first byte
pub head_of_first : (first major argument : ℕ) (following rest : List ℕ) {b : List ℕ} {kind : ℕ} → b ≡ first ∷ following → first / 32 ≡ kind → SplitsHead b major argument rest → SplitsHead b kind argument rest
head_of_first first major argument following rest {b} {kind} e is h = subst (λ m. SplitsHead b m argument rest) (sym (begins first following major argument rest h.1 (sym e ∙ h.2)).major_is ∙ is) h

-- each byte was looked at once
pub slice_looked : {old new : Reading} {b rest : List ℕ} (taken : List ℕ) → old.left ≡ Some b → new.left ≡ Some rest → b ≡ taken ++ rest → new.looked + length rest ≡ old.looked + length b → new.shown ≡ [] → LooksAtTaken 2 0 old new
slice_looked {old} {new} {b} {rest} taken l m e counted none =
    let long = ap length e in
    record {
      grows = omega (arith, long, counted, length-append taken rest);
      most = λ x k. (rest, length taken, m, omega (arith, ap length (same_left old l k), long, length-append taken rest), omega (arith, long, counted, length-append taken rest));
      none_shown = none;
    }

row_short : {i w n : ℕ} → Row i w n → w ≤ 8
row_short (whole a b c) = omega (arith, b)
row_short (one a b c d) = omega (arith, b)
row_short (two a b c d) = omega (arith, b)
row_short (four a b c d) = omega (arith, b)
row_short (eight a b c d) = omega (arith, b)

pub head_short : (major n : ℕ) → n < 2 ^ 64 → length (head major n) ≤ 9
head_short major n h = let s = shape major n h in omega (arith, ap length s.is, length-bytes_high_first s.width n, row_short s.row)

pub slice_at_most : (before now : ℕ) {b : List ℕ} (rest : List ℕ) {major argument : ℕ} → SplitsHead b major argument rest → now + length rest ≡ before + length b → now ≤ before + 18
slice_at_most before now {b} rest {major} {argument} h counted =
    omega (arith, ap length h.2, counted, length-append (head major argument) rest, head_short major argument h.1)

-- a payload after a head
pub slice_payload : {b payload rest : List ℕ} (front following : List ℕ) (n : ℕ) → b ≡ front ++ following → payload ≡ take n following → rest ≡ drop n following → b ≡ (front ++ payload) ++ rest
slice_payload {b} {payload} {rest} front following n e at past =
    e ∙ ap (λ x. front ++ x) (sym (take-append-drop n following) ∙ ap₂ (λ x y. x ++ y) (sym at) (sym past)) ∙ sym (append_assoc front payload rest)
