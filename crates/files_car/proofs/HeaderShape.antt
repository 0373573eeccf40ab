-- The shape of a header: its bytes before the list of roots and after it, and the links of the list.
use Rattle.std.proofs.Common.{◌≡◌, ◌≢◌, ℕ, suc, ◌+◌, ◌-◌, ◌<◌, List, [], ◌∷◌, ◌++◌, map, length, take, codes, Bool, refl, sym, ap, ◌∙◌, subst, arith, append_assoc, ◌↔◌, IsTrue, Option, Some, None, MatchOption, bytes_eq, take-append-drop}
use Rattle.std.specs.List.{IsSplitAt}
use Rattle.std.proofs.lemmas.Slice.Eq.{bytes_eq-Decides}
use Rattle.dagcbor_core.specs.Head.{head}
use Rattle.dagcbor_core.specs.Splits.{SplitsHead, BeginsWithHead}
use Rattle.ipld_tree.specs.Tree.{Tree, list, link, items_of}
use Rattle.ipld_tree.specs.Spelling.{spelling, items_spelling, item_count, IsFront, AreFronts, IsSpelling}
use Rattle.ipld_tree.proofs.Unique.{split_at_length}
use Rattle.ipld_tree.proofs.Fronts.{by_head, front_unique, list_opened, list_closed, item_opened, item_closed, items_after}
use Rattle.dagcbor_decode.proofs.Fronts.{plain_text}
use Rattle.files_car.specs.Car.{header_tree}
use Rattle.std.specs.declared.convert.Infallible.{Infallible}
use Rattle.files_car.specs.Splits.{AreLinkFronts, CountFault}
use Rattle.files_car.specs.declared.error.CarError.{CarError}
use Rattle.files_car.specs.declared.error.CarError.TheVariants.{Truncated, InvalidLength, OutOfMemory}

-- ---- links, one after the other

links_count : (roots : List (List ℕ)) → item_count (items_of (map link roots)) ≡ length roots
links_count [] = refl
links_count (r ∷ rs) = ap suc (links_count rs)

-- the links that were passed, and those to come, if there are `count` links
pub record LinksPassed (b : List ℕ) (count to_come : ℕ) (now : List ℕ) : Type 0 where
  passed : (end : List ℕ) (more : List (List ℕ)) → AreFronts now (items_of (map link more)) end → (all : List (List ℕ)) × (length all + to_come ≡ count + length more) × AreFronts b (items_of (map link all)) end
  left : (end : List ℕ) (all : List (List ℕ)) → AreLinkFronts b count all end → (more : List (List ℕ)) × AreLinkFronts now to_come more end

pub no_link_passed : (b : List ℕ) (count : ℕ) → LinksPassed b count count b
no_link_passed b count = record { passed = λ end more f. (more, omega arith, f); left = λ end all k. (all, k) }

pub one_link_passed : (b now cid rest : List ℕ) (count to_come : ℕ) → 0 < to_come → LinksPassed b count to_come now → IsFront now (link cid) rest → LinksPassed b count (to_come - 1) rest
one_link_passed b now cid rest count to_come some s f = record {
  passed = λ end more k.
      let q = s.passed end (cid ∷ more) (item_closed now rest end (link cid) (items_of (map link more)) f k) in
      (q.0, omega (arith, q.1, some), q.2);
  left = λ end all k. let q = s.left end all k in following q.0 q.1;
}
  where
    following : {end : List ℕ} (more : List (List ℕ)) → AreLinkFronts now to_come more end → (us : List (List ℕ)) × AreLinkFronts rest (to_come - 1) us end
    following [] k = absurd (omega (arith, k.0, some))
    following {end} (u ∷ us) k = (us, (omega (arith, k.0), (items_after now rest end (link cid) (link u) (items_of (map link us)) f k.1).1))

pub no_link_there : (b now : List ℕ) (count to_come : ℕ) → 0 < to_come → LinksPassed b count to_come now → ¬ ((cid rest : List ℕ) × IsFront now (link cid) rest) → ¬ ((roots : List (List ℕ)) × (rest : List ℕ) × AreLinkFronts b count roots rest)
no_link_there b now count to_come some s none h = let q = s.left h.1 h.0 h.2 in next q.0 q.1
  where
    next : {end : List ℕ} (more : List (List ℕ)) → AreLinkFronts now to_come more end → ⊥
    next [] k = omega (arith, k.0, some)
    next {end} (u ∷ us) k = none (u, _, (item_opened now end (link u) (items_of (map link us)) k.1).0)

pub all_links_passed : (b now : List ℕ) (count to_come : ℕ) → to_come ≡ 0 → LinksPassed b count to_come now → (roots : List (List ℕ)) × AreLinkFronts b count roots now
all_links_passed b now count to_come none s =
    let q = s.passed now [] record { well_formed = tt; spellable = tt; is = refl } in
    (q.0, (omega (arith, q.1, none), q.2))

-- ---- the list of them

abbrev pub link_list : List (List ℕ) → Tree
link_list roots = list (items_of (map link roots))

pub no_list_there : (m n : ℕ) (b c : List ℕ) → SplitsHead b m n c → ¬ (m ≡ 4) → ¬ ((roots : List (List ℕ)) × (rest : List ℕ) × IsFront b (link_list roots) rest)
no_list_there m n b c h other k = other (sym (by_head m n b c k.1 (link_list k.0) h.1 k.2 h.2).0)

pub no_head_there : (b : List ℕ) → ¬ BeginsWithHead b → ¬ ((roots : List (List ℕ)) × (rest : List ℕ) × IsFront b (link_list roots) rest)
no_head_there b none k = none (4, item_count (items_of (map link k.0)), items_spelling (items_of (map link k.0)) ++ k.1, (omega arith, k.2.spellable.0, k.2.is ∙ append_assoc (head 4 (item_count (items_of (map link k.0)))) (items_spelling (items_of (map link k.0))) k.1))

pub no_links_there : (n : ℕ) (b c : List ℕ) → SplitsHead b 4 n c → ¬ ((roots : List (List ℕ)) × (rest : List ℕ) × AreLinkFronts c n roots rest) → ¬ ((roots : List (List ℕ)) × (rest : List ℕ) × IsFront b (link_list roots) rest)
no_links_there n b c h none k =
    let o = list_opened b c k.1 n (items_of (map link k.0)) h.1 k.2 h.2 in
    none (k.0, k.1, (sym (links_count k.0) ∙ o.0, o.1))

pub links_there : (n : ℕ) (b c rest : List ℕ) → SplitsHead b 4 n c → ((roots : List (List ℕ)) × AreLinkFronts c n roots rest) → (roots : List (List ℕ)) × IsFront b (link_list roots) rest
links_there n b c rest h k =
    let items = items_of (map link k.0) in
    let count : item_count items ≡ n = links_count k.0 ∙ k.1.0 in
    (k.0, subst (λ x. IsFront x (link_list k.0) rest) (ap (λ m. head 4 m ++ c) count ∙ sym h.2) (list_closed c rest items (omega (arith, count, h.1)) k.1.1))

-- ---- the header

abbrev pub before_roots : List ℕ
before_roots = 0xa2 ∷ 0x65 ∷ 0x72 ∷ 0x6f ∷ 0x6f ∷ 0x74 ∷ 0x73 ∷ []

abbrev pub after_roots : List ℕ
after_roots = 0x67 ∷ 0x76 ∷ 0x65 ∷ 0x72 ∷ 0x73 ∷ 0x69 ∷ 0x6f ∷ 0x6e ∷ 0x01 ∷ []

pub header_spelled : (roots : List (List ℕ)) → spelling (header_tree roots) ≡ before_roots ++ (spelling (link_list roots) ++ after_roots)
unfolding head
header_spelled roots = refl

pub is_the_header : (b front rest version : List ℕ) → b ≡ front ++ rest → front ≡ before_roots → version ≡ after_roots → ((roots : List (List ℕ)) × IsFront rest (link_list roots) version) → (roots : List (List ℕ)) × IsSpelling b (header_tree roots)
is_the_header b front rest version is before following k = (
  k.0,
  record {
    well_formed = (plain_text (codes "roots") refl, k.1.well_formed, refl, (plain_text (codes "version") refl, tt, tt, tt));
    spellable = (omega arith, (omega arith, k.1.spellable, (omega arith, omega arith, tt)));
    is = is ∙ ap (λ x. x ++ rest) before ∙ ap (λ x. before_roots ++ x) (k.1.is ∙ ap (λ x. spelling (link_list k.0) ++ x) following) ∙ sym (header_spelled k.0);
  },
)

-- the parts of a header
header_parts : (b : List ℕ) (roots : List (List ℕ)) → IsSpelling b (header_tree roots) → (b ≡ before_roots ++ (spelling (link_list roots) ++ after_roots)) × IsFront (spelling (link_list roots) ++ after_roots) (link_list roots) after_roots
header_parts b roots h = (h.is ∙ header_spelled roots, record { well_formed = h.well_formed.1; spellable = h.spellable.1.1; is = refl })

pub other_beginning : (b front rest : List ℕ) → b ≡ front ++ rest → length front ≡ 7 → ¬ (front ≡ before_roots) → ¬ ((roots : List (List ℕ)) × IsSpelling b (header_tree roots))
other_beginning b front rest is long other h =
    let k = header_parts b h.0 h.1 in
    other (split_at_length front before_roots rest (spelling (link_list h.0) ++ after_roots) long (sym is ∙ k.0)).0

list_at : (b front rest : List ℕ) (roots : List (List ℕ)) → b ≡ front ++ rest → front ≡ before_roots → IsSpelling b (header_tree roots) → IsFront rest (link_list roots) after_roots
list_at b front rest roots is before h =
    let k = header_parts b roots h in
    let same = (split_at_length front before_roots rest (spelling (link_list roots) ++ after_roots) (ap length before) (sym is ∙ k.0)).1 in
    subst (λ x. IsFront x (link_list roots) after_roots) (sym same) k.1

pub no_roots : (b front rest : List ℕ) → b ≡ front ++ rest → front ≡ before_roots → ¬ ((roots : List (List ℕ)) × (more : List ℕ) × IsFront rest (link_list roots) more) → ¬ ((roots : List (List ℕ)) × IsSpelling b (header_tree roots))
no_roots b front rest is before none h = none (h.0, after_roots, list_at b front rest h.0 is before h.1)

pub other_end : (b front rest version : List ℕ) → b ≡ front ++ rest → front ≡ before_roots → ((roots : List (List ℕ)) × IsFront rest (link_list roots) version) → ((roots : List (List ℕ)) × IsSpelling b (header_tree roots)) → version ≡ after_roots
other_end b front rest version is before k h = (front_unique rest version after_roots (link_list k.0) (link_list h.0) k.1 (list_at b front rest h.0 is before h.1)).1

-- the end decides
pub header_decided : (b front rest version : List ℕ) (answer : Bool) → b ≡ front ++ rest → front ≡ before_roots → ((roots : List (List ℕ)) × IsFront rest (link_list roots) version) → answer ≡ bytes_eq version after_roots
    → IsTrue answer ↔ ((roots : List (List ℕ)) × IsSpelling b (header_tree roots))
header_decided b front rest version answer is before k e = (
  λ yes. is_the_header b front rest version is before ((bytes_eq-Decides version after_roots).0 (sym e ∙ yes)) k,
  λ h. e ∙ (bytes_eq-Decides version after_roots).1 (other_end b front rest version is before k h),
)

-- the list's links decide
pub list_judged : {R : Type 0} (now : R → List ℕ) (n : ℕ) (b c : List ℕ) (r : Option R) → SplitsHead b 4 n c
    → MatchOption r (¬ ((roots : List (List ℕ)) × (rest : List ℕ) × AreLinkFronts c n roots rest)) (λ x. (roots : List (List ℕ)) × AreLinkFronts c n roots (now x))
    → MatchOption r (¬ ((roots : List (List ℕ)) × (rest : List ℕ) × IsFront b (link_list roots) rest)) (λ x. (roots : List (List ℕ)) × IsFront b (link_list roots) (now x))
list_judged now n b c None h none = no_links_there n b c h none
list_judged now n b c (Some x) h k = links_there n b c (now x) h k

pub split_joins : (b front rest : List ℕ) (n : ℕ) → IsSplitAt b n front rest → b ≡ front ++ rest
split_joins b front rest n cut = sym (ap (λ x. x ++ rest) cut.1 ∙ ap (λ x. take n b ++ x) cut.2 ∙ take-append-drop n b)

-- out of memory is never the fault of a length
pub counts_no_memory : (e : CarError Infallible) (b : List ℕ) → CountFault e b → e ≢ OutOfMemory
counts_no_memory OutOfMemory b h same = h
counts_no_memory Truncated b h same = absurd (cc same)
counts_no_memory InvalidLength b h same = absurd (cc same)
counts_no_memory _ b h same = h
