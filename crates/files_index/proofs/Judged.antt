-- An index is judged.
use Rattle.std.proofs.Common.{◌≡◌, ℕ, ◌+◌, ◌-◌, ◌<◌, ◌≤◌, ◌==◌, ◌||◌, cond, Bool, true, false, not, List, [], ◌∷◌, ◌++◌, length, take, get_or, map, Result, Ok, Err, IfOk, refl, sym, ap, ◌∙◌, arith, append_assoc, append-nil, IsPermutation, IsSorted, rules, zero-le, is_eq, nat_lt}
use Rattle.std.proofs.lemmas.Bool.{ltb-true, ltb-false}
use Rattle.std.specs.declared.cmp.Ordering.TheVariants.{Less, Greater}
use Rattle.std.specs.Cmp.Rules.{comparing}
use Rattle.std.specs.Cmp.{IsTotalOrder}
use Rattle.std.specs.List.{filter}
use Rattle.std.specs.Result.{is_ok}
use Rattle.std.specs.List.Sorted.{IsBinarySearchResult, IsSearchInRange}
use Rattle.std.proofs.lemmas.List.{take_more}
use Rattle.std.proofs.lemmas.List.Folds.{list_any_at, list_any_none}
use Rattle.std.proofs.lemmas.List.Elements.{filter_more}
use Rattle.std.proofs.lemmas.List.Sorted.{searchable_from_sorted, list_any-IsPermutation}
use Rattle.files_index.specs.Index.{EntryParts, entry_cmp}
use Rattle.files_index.specs.Judging.{listed_as, is_entry_of, fallen, unordered, multihash_of, listed, is_unlisted, unlisted}
use Rattle.files_index.specs.declared.judging.Placed.{Placed}
use Rattle.files_index.specs.declared.entries.Format.{Format}

entry_total : IsTotalOrder entry_cmp
entry_total = search (comparing, rules) depth 9

-- the entry at a place is another, if all before one place are less, and all from there on greater
not_there : (x e : EntryParts) (k i : ℕ) → (k < i → entry_cmp x e ≡ Less) → (i ≤ k → entry_cmp x e ≡ Greater) → is_eq (entry_cmp x e) ≡ false
not_there x e k i less more = go (nat_lt k i) refl
  where
    go : (b : Bool) → nat_lt k i ≡ b → is_eq (entry_cmp x e) ≡ false
    go true is = ap is_eq (less (ltb-true k i is))
    go false is = ap is_eq (more (ltb-false k i is))

-- the answer of a search among sorted entries
pub searched_entry : (es : List EntryParts) (e : EntryParts) (r : Result ℕ ℕ) → IsSorted entry_cmp es → IsSearchInRange r (length es) → IsBinarySearchResult (λ x. entry_cmp x e) es r → is_ok r ≡ is_entry_of es e
searched_entry es e (Ok i) up within h = sym (list_any_at (λ x. is_eq (entry_cmp x e)) es i e within (ap is_eq (h e)))
searched_entry es e (Err i) up within h =
    let parted = h (searchable_from_sorted entry_total (λ x. x) es e up) in
    sym (list_any_none (λ x. is_eq (entry_cmp x e)) es (λ k d lt. not_there (get_or es k d) e k i (λ l. parted.0 k d zero-le l) (λ l. parted.1 k d l lt)))

-- the same among others, of which the sorted ones are a permutation
pub of_permutation : (xs es : List EntryParts) (e : EntryParts) → IsPermutation xs es → is_entry_of es e ≡ is_entry_of xs e
of_permutation xs es e same = sym (list_any-IsPermutation (λ x. is_eq (entry_cmp x e)) xs es same)

-- a filter by them gives the same
pub filter_same : {X : Type 0} (p q : X → Bool) → ((x : X) → p x ≡ q x) → (xs : List X) → filter p xs ≡ filter q xs
filter_same p q same xs = ap (λ f. filter f xs) (λ i x. same x i)

pub map_push : {X Y : Type 0} (f : X → Y) (xs : List X) (i : ℕ) (x : X) → i < length xs → x ≡ get_or xs i x → map f (take (i + 1) xs) ≡ map f (take i xs) ++ f x ∷ []
map_push f xs i x lt is = ap (map f) (take_more xs i x lt ∙ ap (λ y. take i xs ++ y ∷ []) (sym is)) ∙ go (take i xs)
  where
    go : (l : List _) → map f (l ++ x ∷ []) ≡ map f l ++ f x ∷ []
    go [] = refl
    go (y ∷ ys) = ap (λ l. f y ∷ l) (go ys)

-- one more is there
pub map_pushed : {X Y : Type 0} (f : X → Y) (xs : List X) (old new : List Y) (i : ℕ) (x : X) (y : Y) → i < length xs → x ≡ get_or xs i x → y ≡ f x → old ≡ map f (take i xs) → new ≡ old ++ y ∷ [] → new ≡ map f (take (i + 1) xs)
map_pushed f xs old new i x y lt at is h e = e ∙ ap (λ l. l ++ y ∷ []) h ∙ ap (λ z. map f (take i xs) ++ z ∷ []) is ∙ sym (map_push f xs i x lt at)

-- one more, if it passes
filter_next : {X : Type 0} (p : X → Bool) (xs : List X) (i : ℕ) (x : X) → i < length xs → x ≡ get_or xs i x → filter p (take (i + 1) xs) ≡ filter p (take i xs) ++ cond (p x) (x ∷ []) []
filter_next p xs i x lt at = filter_more p xs i x lt ∙ ap (λ y. filter p (take i xs) ++ cond (p y) (y ∷ []) []) (sym at)

pub filter_pushed : {X : Type 0} (p : X → Bool) (xs old new : List X) (i : ℕ) (x : X) → i < length xs → x ≡ get_or xs i x → old ≡ filter p (take i xs) → new ≡ old ++ cond (p x) (x ∷ []) [] → new ≡ filter p (take (i + 1) xs)
filter_pushed p xs old new i x lt at h e = e ∙ ap (λ l. l ++ cond (p x) (x ∷ []) []) h ∙ sym (filter_next p xs i x lt at)

map_append : {X Y : Type 0} (f : X → Y) (xs ys : List X) → map f (xs ++ ys) ≡ map f xs ++ map f ys
map_append f [] ys = refl
map_append f (x ∷ xs) ys = ap (λ l. f x ∷ l) (map_append f xs ys)

map_cond : {X Y : Type 0} (f : X → Y) (b : Bool) (x : X) → map f (cond b (x ∷ []) []) ≡ cond b (f x ∷ []) []
map_cond f true x = refl
map_cond f false x = refl

pub chosen_pushed : {X Y : Type 0} (f : X → Y) (p : X → Bool) (xs : List X) (old new : List Y) (i : ℕ) (x : X) → i < length xs → x ≡ get_or xs i x → old ≡ map f (filter p (take i xs)) → new ≡ old ++ cond (p x) (f x ∷ []) [] → new ≡ map f (filter p (take (i + 1) xs))
chosen_pushed f p xs old new i x lt at h e =
    e ∙ ap (λ l. l ++ cond (p x) (f x ∷ []) []) h ∙ ap (λ l. map f (filter p (take i xs)) ++ l) (sym (map_cond f (p x) x))
    ∙ sym (ap (map f) (filter_next p xs i x lt at) ∙ map_append f (filter p (take i xs)) (cond (p x) (x ∷ []) []))

-- the entries that are wrong by the sorted right entries are wrong by any order of these
pub wrong_by : (xs right : List EntryParts) (es found : List EntryParts) → IsPermutation xs right → found ≡ filter (λ e. not (is_entry_of right e)) es → found ≡ filter (λ e. not (is_entry_of xs e)) es
wrong_by xs right es found same h = h ∙ filter_same (λ e. not (is_entry_of right e)) (λ e. not (is_entry_of xs e)) (λ e. ap not (of_permutation xs right e same)) es

-- those that are unlisted by the sorted entries and names are so by any
pub unlisted_by : (f : Format) (es sorted names : List EntryParts) (ps found : List Placed) → IsPermutation es sorted → IsPermutation (map multihash_of (listed f sorted ps)) names → found ≡ filter (is_unlisted names) ps → found ≡ unlisted f es ps
unlisted_by f es sorted names ps found same named h =
    let all : listed f sorted ps ≡ listed f es ps = filter_same (λ p. is_entry_of sorted (listed_as f p)) (λ p. is_entry_of es (listed_as f p)) (λ p. of_permutation es sorted (listed_as f p) same) ps in
    h ∙ filter_same (is_unlisted names) (is_unlisted (map multihash_of (listed f sorted ps))) (λ p. ap (λ b. not (p.cid.hash_code == 0 || b)) (of_permutation (map multihash_of (listed f sorted ps)) names (multihash_of p) named)) ps
    ∙ ap (λ l. filter (is_unlisted (map multihash_of l)) ps) all

-- an entry more
unordered_pushed : (es : List EntryParts) (d e : EntryParts) → unordered ((es ++ d ∷ []) ++ e ∷ []) ≡ unordered (es ++ d ∷ []) ++ fallen d e
unordered_pushed [] d e = append-nil (fallen d e)
unordered_pushed (x ∷ []) d e = ap (λ l. fallen x d ++ l) (append-nil (fallen d e)) ∙ ap (λ l. l ++ fallen d e) (sym (append-nil (fallen x d)))
unordered_pushed (x ∷ (y ∷ es)) d e = ap (λ l. fallen x y ++ l) (unordered_pushed (y ∷ es) d e) ∙ sym (append_assoc (fallen x y) (unordered (y ∷ (es ++ d ∷ []))) (fallen d e))

pub unordered_more : (es : List EntryParts) (n : ℕ) (d e : EntryParts) → 1 ≤ n → n < length es → d ≡ get_or es (n - 1) d → e ≡ get_or es n e → unordered (take (n + 1) es) ≡ unordered (take n es) ++ fallen d e
unordered_more es n d e some lt first second =
    let m : (n - 1) + 1 ≡ n = omega (arith, some) in
    let one : take n es ≡ take (n - 1) es ++ d ∷ [] = ap (λ k. take k es) (sym m) ∙ take_more es (n - 1) d (omega (arith, some, lt)) ∙ ap (λ y. take (n - 1) es ++ y ∷ []) (sym first) in
    let two : take (n + 1) es ≡ take n es ++ e ∷ [] = take_more es n e lt ∙ ap (λ y. take n es ++ y ∷ []) (sym second) in
    ap unordered (two ∙ ap (λ l. l ++ e ∷ []) one) ∙ unordered_pushed (take (n - 1) es) d e ∙ ap (λ l. unordered l ++ fallen d e) (sym one)

pub if_ok : {A E : Type 0} {P Q : A → Type 0} (r : Result A E) → IfOk r P → ((x : A) → P x → Q x) → IfOk r Q
if_ok (Ok x) h f = f x h
if_ok (Err e) h f = tt
