-- Bytes that are shown and taken.
use Rattle.std.proofs.Common.{◌≡◌, ℕ, ◌+◌, ◌*◌, ◌≤◌, min, List, [], ◌∷◌, ◌++◌, length, take, drop, Option, Some, MatchOption, refl, sym, ap, subst, ◌∙◌, arith, append_assoc, take-append-drop, length-take-le, slice_get}
use Rattle.std.proofs.lemmas.List.{take-append-le}
use Rattle.dagcbor_heads.specs.Reading.{Reading, Stays, Shows, Advances}
use Rattle.dagcbor_heads.specs.Fronts.{FindsEnd, ShowsByte, Takes, Gathers}
use Rattle.dagcbor_heads.specs.Looking.{LooksAtSome}

-- ---- the same reader

pub stays : (r : Reading) → Stays r r
stays r = record { steps = refl; budget = refl; lends = refl; faults = refl; through = refl }

pub stays_both : {old mid new : Reading} → Stays old mid → Stays mid new → Stays old new
stays_both h k = record { steps = k.steps ∙ h.steps; budget = k.budget ∙ h.budget; lends = k.lends ∙ h.lends; faults = k.faults ∙ h.faults; through = k.through ∙ h.through }

-- ---- what is shown

-- the bytes that are shown, followed by the others, are the whole
pub shown_whole : (b shown : List ℕ) → take (length shown) b ≡ shown → b ≡ shown ++ drop (length shown) b
shown_whole b shown e = sym (take-append-drop (length shown) b) ∙ ap (λ s. s ++ drop (length shown) b) e

pub take_of_shown : (b shown : List ℕ) (n : ℕ) → take (length shown) b ≡ shown → n ≤ length shown → take n b ≡ take n shown
take_of_shown b shown n e h = ap (take n) (shown_whole b shown e) ∙ take-append-le n shown (drop (length shown) b) h

begins_with : (shown : List ℕ) (x : ℕ) (xs b : List ℕ) → shown ≡ x ∷ xs → take (length shown) b ≡ shown → (more : List ℕ) × (b ≡ x ∷ more)
begins_with shown x xs b is e = (xs ++ drop (length (x ∷ xs)) b, shown_whole b (x ∷ xs) (subst (λ s. take (length s) b ≡ s) is e))

-- the first byte that is shown, or the end
pub first_shown : {old mid : Reading} (shown : List ℕ) (found : Option ℕ) → mid.shown ≡ shown → found ≡ slice_get shown 0 → Shows old 1 mid
    → MatchOption found (FindsEnd old mid) (λ byte. ShowsByte old byte mid × (1 ≤ length mid.shown))
first_shown {old} {mid} [] found is e h = subst (λ o. MatchOption o (FindsEnd old mid) (λ byte. ShowsByte old byte mid × (1 ≤ length mid.shown))) (sym e)
    record { none_left = λ b l. (h.front b l).end (omega arith) (ap length is); kept = h.kept; same = h.same }
first_shown {old} {mid} (x ∷ xs) found is e h = subst (λ o. MatchOption o (FindsEnd old mid) (λ byte. ShowsByte old byte mid × (1 ≤ length mid.shown))) (sym e) (
  record {
    starts = λ b l. begins_with mid.shown x xs b is (h.front b l).front;
    still = λ b l. begins_with mid.shown x xs b is (h.begins b l);
    kept = h.kept;
    same = h.same;
  },
  omega (arith, ap length is),
)

-- ---- what is taken

pub byte_taken : {old mid new : Reading} {byte : ℕ} → ShowsByte old byte mid → Advances mid 1 new → Takes old (byte ∷ []) new
byte_taken {old} {mid} {new} {byte} h a = record {
  taken = λ b l. (let s = h.starts b l in (s.0, s.1, a.dropped b (h.kept b l) ∙ ap (λ x. Some (drop 1 x)) s.1));
  same = stays_both h.same a.same;
}

pub front_taken : {old mid new : Reading} {want : ℕ} (n : ℕ) → Shows old want mid → n ≤ length mid.shown → Advances mid n new → Takes old (take n mid.shown) new
front_taken {old} {mid} {new} {want} n h few a = record {
  taken = λ b l. (drop n b, sym (take-append-drop n b) ∙ ap (λ s. s ++ drop n b) (take_of_shown b mid.shown n (h.front b l).front few), a.dropped b (h.kept b l));
  same = stays_both h.same a.same;
}

-- what is taken in two calls
pub takes_both : {old mid new : Reading} {a b : List ℕ} → Takes old a mid → Takes mid b new → Takes old (a ++ b) new
takes_both {old} {mid} {new} {a} {b} h k = record {
  taken = λ x l.
      let p = h.taken x l in
      let q = k.taken p.0 p.2 in
      (q.0, p.1 ∙ ap (λ s. a ++ s) q.1 ∙ sym (append_assoc a b q.0), q.2);
  same = stays_both h.same k.same;
}

pub nothing_taken : (r : Reading) → Takes r [] r
nothing_taken r = record { taken = λ b l. (b, refl, l); same = stays r }

-- the part of a payload that one fill brought
pub fill_gathers : {old mid new : Reading} {want n : ℕ} {before after : List ℕ} → Shows old want mid → n ≡ min want (length mid.shown) → after ≡ before ++ take n mid.shown → Advances mid n new
    → Gathers old before want n after new
fill_gathers {old} {mid} {new} {want} {n} h is following a = record {
  bytes = take n mid.shown;
  counted = length-take-le n mid.shown (omega (arith, is));
  takes = front_taken n h (omega (arith, is)) a;
  following = following;
  most = omega (arith, is);
  none_left = λ none some b l. (h.front b l).end some (omega (arith, is));
}

-- some of n bytes were gathered, each looked at twice at most, and the others are still to come
pub record GatheredSome (n left : ℕ) (old : Reading) (payload : List ℕ) (now : Reading) : Type 0 where
  pub counted : length payload + left ≡ n
  pub takes : Takes old payload now
  pub looked : LooksAtSome 2 old now
  pub at_most : now.looked + 2 * left ≤ old.looked + 2 * n
