-- Entries that are in one buffer.
use Rattle.std.proofs.Common.{◌≡◌, ℕ, zero, suc, ◌+◌, ◌-◌, ◌<◌, ◌≤◌, List, [], ◌∷◌, ◌++◌, length, map, get_or, take, drop, Option, None, Some, Bool, true, refl, sym, ap, ap₂, ◌∙◌, subst, arith, length-append, take_all, drop-drop, length-drop, Decides, bytes_eq, IfSome, option_map, All, slice_range, IsSortedBy, is_lt}
use Rattle.std.proofs.lemmas.List.{take-append-le, drop-append-le, get_or-map, get_or_default, length-map, map_push}
use Rattle.std.proofs.lemmas.List.Elements.{All-get_or, All-push, recursion_from_All}
use Rattle.std.proofs.lemmas.Slice.Eq.{bytes_eq-Decides}
use Rattle.std.proofs.Math.Seq.{drop-append_seam}
use Rattle.std.specs.List.{AllByRecursion}
use Rattle.ipld_tree.specs.Key.{bytes_cmp}
use Rattle.ipld_tree.specs.Tree.{Tree}
use Rattle.ipld_tree.specs.Spelled.{spelled_tree}
use Rattle.dagcbor_write.specs.declared.collect.gathered.Span.{Span}
use Rattle.dagcbor_write.specs.declared.collect.keyed.KeySpan.{KeySpan}
use Rattle.dagcbor_write.specs.Keyed.{key_goes_before}
use Rattle.dagcbor_write.specs.Gathering.{AppendsTo, Grows}
use Rattle.dagcbor_write.specs.Maps.{Texts, Joins, JoinsValue}
use Rattle.dagcbor_write.specs.Order.{goes_before}
use Rattle.dagcbor_write.specs.Spans.{entry_at, IsWithin, keyed_at, EndsWithin}

-- keys that a test of their bytes finds equal are
pub same_bytes : (xs ys : List ℕ) → bytes_eq xs ys ≡ true → xs ≡ ys
same_bytes xs ys e = decided (bytes_eq xs ys) (xs ≡ ys) (bytes_eq-Decides xs ys) e
  where
    decided : (b : Bool) (P : Type 0) → Decides b P → b ≡ true → P
    decided b P d e = d.0 e

-- the text that was appended is after the bytes
pub following : (o : Option (List ℕ)) (old new : List ℕ) → AppendsTo old new o → o ≡ Some (drop (length old) new)
following None old new h = absurd h
following (Some t) old new h = ap Some (sym (drop-append_seam old t) ∙ ap (drop (length old)) (sym h))

pub range_stays : (bs more : List ℕ) (a b : ℕ) → a ≤ b → b ≤ length bs → slice_range (bs ++ more) a b ≡ slice_range bs a b
range_stays bs more a b h k = ap (take (b - a)) (drop-append-le a bs more (omega arith)) ∙ take-append-le (b - a) (drop a bs) more (omega (arith, length-drop a bs))

-- spans within the bytes hold the same when the bytes grow
pub all_stay : {S X : Type 0} (at : List ℕ → S → X) (Within : ℕ → S → Type 0) (bs more : List ℕ) → ((s : S) → Within (length bs) s → at (bs ++ more) s ≡ at bs s) → (ss : List S) → AllByRecursion (Within (length bs)) ss → map (at (bs ++ more)) ss ≡ map (at bs) ss
all_stay at Within bs more stays [] w = refl
all_stay at Within bs more stays (s ∷ ss) w = ap₂ (λ e es. e ∷ es) (stays s w.0) (all_stay at Within bs more stays ss w.1)

pub entry_stays : (bs more : List ℕ) (s : Span) → IsWithin (length bs) s → entry_at (bs ++ more) s ≡ entry_at bs s
entry_stays bs more s w = ap₂ (λ k v. (k, v)) (range_stays bs more s.start s.key_end w.0 (omega (arith, w))) (range_stays bs more s.key_end s.end w.1 w.2)

-- bytes that are appended leave the entries as they are
pub entries_kept : (o : Option (List ℕ)) (old new : List ℕ) (ss : List Span) → AppendsTo old new o → All (IsWithin (length old)) ss → map (entry_at new) ss ≡ map (entry_at old) ss
entries_kept None old new ss h w = absurd h
entries_kept (Some t) old new ss h w = ap (λ bs. map (entry_at bs) ss) h ∙ all_stay entry_at IsWithin old t (entry_stays old t) ss (recursion_from_All (IsWithin (length old)) ss w)

pub last_entry : (old text : List ℕ) (s : Span) → s.start ≤ length old → s.key_end ≡ length old → s.end ≡ length (old ++ text) → entry_at (old ++ text) s ≡ (drop s.start old, text)
last_entry old text s h k e =
    let key = range_stays old text s.start s.key_end (omega (arith, k)) (omega (arith, k)) ∙ take_all (s.key_end - s.start) (drop s.start old) (omega (arith, k, length-drop s.start old)) in
    let value = ap (λ n. take (s.end - s.key_end) (drop n (old ++ text))) k ∙ ap (take (s.end - s.key_end)) (drop-append_seam old text) ∙ take_all (s.end - s.key_end) text (omega (arith, k, e, length-append old text)) in
    ap₂ (λ x y. (x, y)) key value

joins : (o : Option (List ℕ)) (old new : List ℕ) (ss : List Span) (s : Span) → AppendsTo old new o → All (IsWithin (length old)) ss → s.start ≤ length old → s.key_end ≡ length old → s.end ≡ length new
    → Joins (Some (drop s.start old)) o (map (entry_at old) ss) (map (entry_at new) (ss ++ s ∷ []))
joins None old new ss s h w b k e = absurd h
joins (Some t) old new ss s h w b k e =
    map_push (entry_at new) ss s ∙ ap₂ (λ es f. es ++ f ∷ []) (entries_kept (Some t) old new ss h w) (ap (λ bs. entry_at bs s) h ∙ last_entry old t s b k (e ∙ ap length h))

-- a value after the key that waits is an entry
pub value_joins : (o : Option Tree) (old new : List ℕ) (ss : List Span) (key : Option ℕ) (s : Span) → Grows o old new → All (IsWithin (length old)) ss → IfSome key (λ start. start ≤ length old) → key ≡ Some s.start → s.key_end ≡ length old → s.end ≡ length new
    → JoinsValue (option_map (λ start. drop start old) key) o (map (entry_at old) ss) (map (entry_at new) (ss ++ s ∷ []))
value_joins o old new ss key s g w b is k e =
    let P : Option ℕ → Type 0 = λ x. JoinsValue (option_map (λ start. drop start old) x) o (map (entry_at old) ss) (map (entry_at new) (ss ++ s ∷ [])) in
    let Q : Option ℕ → Type 0 = λ x. IfSome x (λ start. start ≤ length old) in
    subst P (sym is) (joins (spelled_tree o) old new ss s g.0 w (subst Q is b) k e, g.1)

take_join : (n m : ℕ) (xs : List ℕ) → take n xs ++ take m (drop n xs) ≡ take (n + m) xs
take_join zero m xs = ap (λ j. take j xs) (omega arith)
take_join (suc n) m [] = take_all m [] (omega arith) ∙ sym (take_all (suc n + m) [] (omega arith))
take_join (suc n) m (x ∷ xs) = let one : suc (n + m) ≡ suc n + m = omega arith in ap (λ ys. x ∷ ys) (take_join n m xs) ∙ ap (λ j. take j (x ∷ xs)) one

-- a key and its value are one after the other
pub one_range : (bs : List ℕ) (s : Span) → s.start ≤ s.key_end → s.key_end ≤ s.end → (entry_at bs s).0 ++ (entry_at bs s).1 ≡ slice_range bs s.start s.end
one_range bs s h k =
    let n = s.key_end - s.start in let m = s.end - s.key_end in
    let at : s.start + n ≡ s.key_end = omega arith in
    let whole : n + m ≡ s.end - s.start = omega arith in
    ap (λ j. take n (drop s.start bs) ++ take m (drop j bs)) (sym at) ∙ ap (λ ys. take n (drop s.start bs) ++ take m ys) (sym (drop-drop n s.start bs)) ∙ take_join n m (drop s.start bs) ∙ ap (λ j. take j (drop s.start bs)) whole

-- the entry in a place
pub entry_is : (n : ℕ) (bs : List ℕ) (ss : List Span) (i : ℕ) (s : Span) (d : Texts) → i < length ss → s ≡ get_or ss i s → All (IsWithin n) ss → slice_range bs s.start s.end ≡ (get_or (map (entry_at bs) ss) i d).0 ++ (get_or (map (entry_at bs) ss) i d).1
entry_is n bs ss i s d h is w =
    let P : Span → Type 0 = λ t. IsWithin n t in
    let within : IsWithin n s = subst P (sym is) (All-get_or P ss i s h w) in
    let at : entry_at bs s ≡ get_or (map (entry_at bs) ss) i d = ap (entry_at bs) is ∙ sym (get_or-map (entry_at bs) ss i s d h) in
    sym (one_range bs s within.0 within.1) ∙ ap (λ e. e.0 ++ e.1) at

-- spans in the order of their bytes are entries in that order
pub entries_sorted : (n : ℕ) (bs : List ℕ) (ss : List Span) → All (IsWithin n) ss → IsSortedBy (λ s t. is_lt (bytes_cmp (slice_range bs s.start s.end) (slice_range bs t.start t.end))) ss → IsSortedBy goes_before (map (entry_at bs) ss)
entries_sorted n bs ss w sorted k d low h =
    let inside : k + 1 < length ss = omega (arith, h, length-map ss (entry_at bs)) in
    let none : Span = record { start = 0; key_end = 0; end = 0 } in
    let s : Span = get_or ss k none in
    let t : Span = get_or ss (k + 1) none in
    let first = entry_is n bs ss k s d (omega (arith, inside)) (get_or_default ss k none s (omega (arith, inside))) w in
    let next = entry_is n bs ss (k + 1) t d inside (get_or_default ss (k + 1) none t inside) w in
    ap₂ (λ x y. is_lt (bytes_cmp x y)) (sym next) (sym first) ∙ sorted k none low inside

-- spans stay within bytes that grow, and one more joins them
pub spans_within : (n m : ℕ) (ss : List Span) (s : Span) → All (IsWithin n) ss → n ≤ m → IsWithin m s → All (IsWithin m) (ss ++ s ∷ [])
spans_within n m ss s w grown more = All-push (IsWithin m) ss s (λ k d h. let at = w k d h in (at.0, at.1, omega (arith, at.2, grown))) more

-- a key that waits begins within the bytes
pub key_within : (key : Option ℕ) (start n : ℕ) → IfSome key (λ s. s ≤ n) → key ≡ Some start → start ≤ n
key_within key start n w is = let P : Option ℕ → Type 0 = λ x. IfSome x (λ s. s ≤ n) in subst P is w

-- ---- keys with their values

module _ {V : Type 0} where
  keyed_stays : (bs more : List ℕ) (s : KeySpan V) → EndsWithin (length bs) s → keyed_at (bs ++ more) s ≡ keyed_at bs s
  keyed_stays bs more s w = ap (λ k. (k, s.value.now)) (range_stays bs more s.start s.end w.0 w.1)

  -- keys that are appended leave the entries as they are, and a place in them joins these
  pub keyed_joins : (o : Option (List ℕ)) (old new : List ℕ) (ss : List (KeySpan V)) (s : KeySpan V) → AppendsTo old new o → All (EndsWithin (length old)) ss → map (keyed_at new) (ss ++ s ∷ []) ≡ map (keyed_at old) ss ++ keyed_at new s ∷ []
  keyed_joins None old new ss s h w = absurd h
  keyed_joins (Some t) old new ss s h w =
      let stay = ap (λ bs. map (keyed_at bs) ss) h ∙ all_stay keyed_at EndsWithin old t (keyed_stays old t) ss (recursion_from_All (EndsWithin (length old)) ss w) in
      map_push (keyed_at new) ss s ∙ ap (λ es. es ++ keyed_at new s ∷ []) stay

  -- places in the order of their bytes are entries in the order of their keys
  pub keyed_sorted : (bs : List ℕ) (ss : List (KeySpan V)) → IsSortedBy (λ s t. is_lt (bytes_cmp (slice_range bs s.start s.end) (slice_range bs t.start t.end))) ss → IsSortedBy key_goes_before (map (keyed_at bs) ss)
  keyed_sorted bs [] sorted k d low h = absurd (omega (arith, h))
  keyed_sorted bs (s ∷ ss) sorted k d low h =
      let inside : k + 1 < length (s ∷ ss) = omega (arith, h, length-map (s ∷ ss) (keyed_at bs)) in
      ap₂ (λ x y. is_lt (bytes_cmp x.0 y.0)) (get_or-map (keyed_at bs) (s ∷ ss) (k + 1) s d inside) (get_or-map (keyed_at bs) (s ∷ ss) k s d (omega (arith, inside))) ∙ sorted k s low inside
