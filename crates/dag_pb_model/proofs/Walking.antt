-- Links of a data model, walked over one by one.
use Rattle.std.proofs.Common.{◌≡◌, ◌≢◌, ℕ, ◌+◌, ◌<◌, ◌≤◌, Bool, true, false, not, ◌&&◌, MatchBool, List, [], ◌∷◌, ◌++◌, length, length-append, flat_map, get_or, inl, inr, refl, sym, ap, ◌∙◌, subst, arith, append_assoc, append-nil}
use Rattle.std.specs.List.{AllByRecursion}
use Rattle.std.specs.Ordering.{nat_cmp, is_lt}
use Rattle.std.specs.Cmp.Lexicographic.{slice_cmp}
use Rattle.std.proofs.lemmas.Bool.{cases_lt}
use Rattle.std.proofs.lemmas.Grind.{flat_map-append}
use Rattle.std.proofs.lemmas.List.{get_or_append_left}
use Rattle.std.proofs.Math.Seq.{get_or-append_seam}
use Rattle.ipld_tree.specs.Spelling.{IsFront, AreFronts, spelling, items_spelling}
use Rattle.ipld_tree.proofs.Fronts.{item_opened, item_closed, items_after}
use Rattle.dag_pb.specs.Node.{LinkParts}
use Rattle.dag_pb.specs.Spelling.{link_spelling, sort_name, AreSorted, IsSpellableLink}
use Rattle.dag_pb_model.specs.Model.{link_model}
use Rattle.dag_pb_model.specs.Reading.{link_models, IsLinkModel, BeginsNoLinkModel, AreNoLinkModels, AreMeasured}
use Rattle.dag_pb_model.proofs.Sizing.{link_no_longer}

-- ---- the order of names

-- the name of the last link, and the empty one before there is a link
pub record IsLastName (name : List ℕ) (ls : List LinkParts) : Type 0 where
  pub none : length ls ≡ 0 → name ≡ []
  pub some : (k : ℕ) (d : LinkParts) → k + 1 ≡ length ls → name ≡ sort_name (get_or ls k d)

-- one name is below the other
abbrev below : List ℕ → List ℕ → Bool
below x y = is_lt (slice_cmp nat_cmp x y)

none_below : (x : List ℕ) → below x [] ≡ false
none_below [] = refl
none_below (a ∷ x) = refl

last_end : (ls : List LinkParts) (l : LinkParts) (d : LinkParts) (k : ℕ) → k ≡ length ls → get_or (ls ++ l ∷ []) k d ≡ l
last_end ls l d k e = ap (λ i. get_or (ls ++ l ∷ []) i d) e ∙ get_or-append_seam ls l [] d

last_named : (ls : List LinkParts) (l : LinkParts) (name : List ℕ) → name ≡ sort_name l → IsLastName name (ls ++ l ∷ [])
last_named ls l name is = record {
  none = λ e. absurd (omega (arith, e, length-append ls (l ∷ [])));
  some = λ k d e. is ∙ ap sort_name (sym (last_end ls l d k (omega (arith, e, length-append ls (l ∷ [])))));
}

sorted_end : (ls : List LinkParts) (l : LinkParts) (last : List ℕ) → AreSorted ls → IsLastName last ls → below (sort_name l) last ≡ false → AreSorted (ls ++ l ∷ [])
sorted_end ls l last sorted named above k d low here = elim (cases_lt (k + 1) (length ls)) [
  | inl few ↦
      let first = get_or_append_left ls (l ∷ []) d k (omega (arith, few)) in
      let second = get_or_append_left ls (l ∷ []) d (k + 1) few in
      ap (λ x. below (sort_name (get_or (ls ++ l ∷ []) (k + 1) d)) (sort_name x)) first ∙ ap (λ x. below (sort_name x) (sort_name (get_or ls k d))) second ∙ sorted k d low few
  | inr more ↦
      let at_end : k + 1 ≡ length ls = omega (arith, more, here, length-append ls (l ∷ [])) in
      let first = get_or_append_left ls (l ∷ []) d k (omega (arith, at_end)) in
      let second = last_end ls l d (k + 1) at_end in
      ap (λ x. below (sort_name (get_or (ls ++ l ∷ []) (k + 1) d)) (sort_name x)) first ∙ ap (λ x. below (sort_name x) (sort_name (get_or ls k d))) second ∙ ap (below (sort_name l)) (sym (named.some k d at_end)) ∙ above
]

sorted_front : (ls : List LinkParts) (l : LinkParts) → AreSorted (ls ++ l ∷ []) → AreSorted ls
sorted_front ls l sorted k d low here =
    let first = get_or_append_left ls (l ∷ []) d k (omega (arith, here)) in
    let second = get_or_append_left ls (l ∷ []) d (k + 1) here in
    sym (ap (λ x. below (sort_name (get_or (ls ++ l ∷ []) (k + 1) d)) (sort_name x)) first ∙ ap (λ x. below (sort_name x) (sort_name (get_or ls k d))) second) ∙ sorted k d low (omega (arith, here, length-append ls (l ∷ [])))

unsorted_end : (ls : List LinkParts) (l : LinkParts) (last : List ℕ) → IsLastName last ls → below (sort_name l) last ≡ true → ¬ AreSorted (ls ++ l ∷ [])
unsorted_end [] l last named less sorted = cc (sym (ap (below (sort_name l)) (named.none refl) ∙ none_below (sort_name l)) ∙ less)
unsorted_end (x ∷ xs) l last named less sorted =
    let k = length xs in
    let ls = x ∷ xs in
    let at_end : k + 1 ≡ length ls = omega arith in
    let first = get_or_append_left ls (l ∷ []) l k (omega arith) in
    let second = last_end ls l l (k + 1) at_end in
    let same = ap (λ y. below (sort_name (get_or (ls ++ l ∷ []) (k + 1) l)) (sort_name y)) first ∙ ap (λ y. below (sort_name y) (sort_name (get_or ls k l))) second ∙ ap (below (sort_name l)) (sym (named.some k l at_end)) in
    cc (sym less ∙ sym same ∙ sorted k l (omega arith) (omega (arith, length-append ls (l ∷ []))))

sorted_now : (ls : List LinkParts) (l : LinkParts) (last : List ℕ) (sorted r : Bool) → r ≡ (sorted && not (below (sort_name l) last)) → MatchBool sorted (AreSorted ls) (¬ AreSorted ls) → IsLastName last ls → MatchBool r (AreSorted (ls ++ l ∷ [])) (¬ AreSorted (ls ++ l ∷ []))
sorted_now ls l last sorted r e h named = by sorted (below (sort_name l) last) refl e h
  where
    by : (s q : Bool) → q ≡ below (sort_name l) last → r ≡ (s && not q) → MatchBool s (AreSorted ls) (¬ AreSorted ls) → MatchBool r (AreSorted (ls ++ l ∷ [])) (¬ AreSorted (ls ++ l ∷ []))
    by true true is e h = subst (λ b. MatchBool b (AreSorted (ls ++ l ∷ [])) (¬ AreSorted (ls ++ l ∷ []))) (sym e) (unsorted_end ls l last named (sym is))
    by true false is e h = subst (λ b. MatchBool b (AreSorted (ls ++ l ∷ [])) (¬ AreSorted (ls ++ l ∷ []))) (sym e) (sorted_end ls l last h named (sym is))
    by false q is e h = subst (λ b. MatchBool b (AreSorted (ls ++ l ∷ [])) (¬ AreSorted (ls ++ l ∷ []))) (sym e) (λ k. h (sorted_front ls l k))

-- ---- the walk

-- the first links were read and measured, and `left` are left
pub record Walked (all : List ℕ) (count left : ℕ) (rest : List ℕ) (size : ℕ) (sorted : Bool) (last : List ℕ) : Type 0 where
  pub done : List LinkParts
  pub counted : length done + left ≡ count
  pub closed : (ls : List LinkParts) → AreFronts rest (link_models ls) [] → AreFronts all (link_models (done ++ ls)) []
  pub none : AreNoLinkModels rest left → AreNoLinkModels all count
  pub spellable : AllByRecursion IsSpellableLink done
  pub size_is : size ≡ length (flat_map link_spelling done)
  pub few : size + length rest ≤ length all
  pub sorted_is : MatchBool sorted (AreSorted done) (¬ AreSorted done)
  pub named : IsLastName last done

all_end : (ls : List LinkParts) (l : LinkParts) → AllByRecursion IsSpellableLink ls → IsSpellableLink l → AllByRecursion IsSpellableLink (ls ++ l ∷ [])
all_end [] l h k = (k, tt)
all_end (m ∷ ls) l h k = (h.0, all_end ls l h.1 k)

none_before : (rest following : List ℕ) (left less : ℕ) (l : LinkParts) → less + 1 ≡ left → IsFront rest (link_model l) following → AreNoLinkModels following less → AreNoLinkModels rest left
none_before rest following left less l is h none [] k = omega (arith, is, k.0)
none_before rest following left less l is h none (m ∷ ms) k = none ms (omega (arith, is, k.0), (items_after rest following [] (link_model l) (link_model m) (link_models ms) h k.1).1)

pub one_walked : (all rest following : List ℕ) (count left less size more : ℕ) (sorted r : Bool) (last name : List ℕ) (l : LinkParts) → less + 1 ≡ left → IsLinkModel rest l following → IsSpellableLink l → more ≡ size + length (link_spelling l) → name ≡ sort_name l → r ≡ (sorted && not (is_lt (slice_cmp nat_cmp name last)))
    → Walked all count left rest size sorted last → Walked all count less following more r name
one_walked all rest following count left less size more sorted r last name l is h spellable sum named now w = record {
  done = w.done ++ l ∷ [];
  counted = omega (arith, w.counted, is, length-append w.done (l ∷ []));
  closed = λ ls k. subst (λ x. AreFronts all (link_models x) []) (sym (append_assoc w.done (l ∷ []) ls)) (w.closed (l ∷ ls) (item_closed rest following [] (link_model l) (link_models ls) h.1 k));
  none = λ k. w.none (none_before rest following left less l is h.1 k);
  spellable = all_end w.done l w.spellable spellable;
  size_is = omega (arith, sum, w.size_is, ap length (flat_map-append link_spelling w.done (l ∷ [])), length-append (flat_map link_spelling w.done) (flat_map link_spelling (l ∷ [])), ap length (append-nil (link_spelling l)));
  few = omega (arith, sum, w.few, link_no_longer l spellable, ap length h.1.is, length-append (spelling (link_model l)) following);
  sorted_is = sorted_now w.done l last sorted r (now ∙ ap (λ n. sorted && not (below n last)) named) w.sorted_is w.named;
  named = last_named w.done l name named;
}

-- the bytes do not begin with a link, though links are still to come
no_first : (rest : List ℕ) (left : ℕ) → 0 < left → BeginsNoLinkModel rest → AreNoLinkModels rest left
no_first rest left some none [] k = omega (arith, some, k.0)
no_first rest left some none (m ∷ ms) k = none m (items_spelling (link_models ms) ++ []) (item_opened rest [] (link_model m) (link_models ms) k.1).0

pub no_link_walked : (all rest : List ℕ) (count left size : ℕ) (sorted : Bool) (last : List ℕ) → 0 < left → BeginsNoLinkModel rest → Walked all count left rest size sorted last → AreNoLinkModels all count
no_link_walked all rest count left size sorted last some none w = w.none (no_first rest left some none)

-- bytes are left after the last link
no_end : (rest : List ℕ) (left : ℕ) → left ≡ 0 → rest ≢ [] → AreNoLinkModels rest left
no_end rest left over there [] k = there k.1.is
no_end rest left over there (m ∷ ms) k = omega (arith, over, k.0)

pub left_after : (all rest : List ℕ) (count left size : ℕ) (sorted : Bool) (last : List ℕ) → left ≡ 0 → rest ≢ [] → Walked all count left rest size sorted last → AreNoLinkModels all count
left_after all rest count left size sorted last over there w = w.none (no_end rest left over there)

pub all_walked : (all rest : List ℕ) (count left size : ℕ) (sorted : Bool) (last : List ℕ) → left ≡ 0 → rest ≡ [] → Walked all count left rest size sorted last → AreMeasured all count size sorted
all_walked all rest count left size sorted last over is w =
    let nothing : AreFronts rest (link_models []) [] = record { well_formed = tt; spellable = tt; is = is } in
    record {
      links = w.done;
      there = (omega (arith, w.counted, over), subst (λ x. AreFronts all (link_models x) []) (append-nil w.done) (w.closed [] nothing));
      spellable = w.spellable;
      size_is = w.size_is;
      few = omega (arith, w.few);
      sorted_is = w.sorted_is;
    }

-- there is room for the length of one more
pub one_fits : (all rest following : List ℕ) (count left size : ℕ) (sorted : Bool) (last : List ℕ) (l : LinkParts) → IsLinkModel rest l following → IsSpellableLink l → Walked all count left rest size sorted last → size + length (link_spelling l) ≤ length all
one_fits all rest following count left size sorted last l h spellable w =
    omega (arith, w.few, link_no_longer l spellable, ap length h.1.is, length-append (spelling (link_model l)) following)
