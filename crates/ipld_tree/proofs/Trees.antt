-- An `Ipld`, level by level, and what its tree needs.
use Rattle.std.proofs.Common.{◌≡◌, ℕ, ◌+◌, ◌<◌, min, max, length, get_or, take, List, [], ◌∷◌, ◌++◌, Bool, true, false, cond, map, String, Vec, BTreeMap, Global, string_bytes, refl, sym, add-one, ap, ◌∙◌, subst, arith, rules, append_assoc, string_cmp, Ordering, Less, Greater, take-suc, nat_cmp, is_lt}
use Rattle.std.proofs.lemmas.Cmp.{ranked, by_ranked, nat_list_cmp_total}
use Rattle.std.proofs.lemmas.List.{map-append}
use Rattle.std.specs.BTreeMap.{insert_entry}
use Rattle.std.specs.List.{AllByRecursion}
use Rattle.std.specs.List.Sorted.{IsStrictlySortedBy}
use Rattle.std.specs.Map.{keys_of}
use Rattle.std.specs.Ordering.{ord_max, match_ordering, ordering_reverse}
use Rattle.ipld_tree.specs.Key.{bytes_cmp, comes_before}
use Rattle.ipld_tree.specs.Tree.{Tree, text, bytes, list, mapping, Items, Entries, no_entries, entry, items_of, insert, ordered_entries, any_need, items_need, entries_need}
use Rattle.ipld_tree.specs.Ipld.{tree_of, trees_of, pairs_of}
use Rattle.ipld_tree.specs.declared.ipld.Ipld.{Ipld, String as String', Bytes as Bytes', List as List', Map as Map', the_lemmas}

abbrev pub IpldEntry : Type 0
IpldEntry = String Global × Ipld

abbrev pub items_tree : List Ipld → Items
items_tree xs = items_of (trees_of xs)

pub tree_of_List : (v : Vec Ipld Global) → tree_of (List' v) ≡ list (items_of (trees_of v.items))
tree_of_List v = search (rules, the_lemmas)

pub tree_of_Map : (m : BTreeMap (String Global) Ipld) → tree_of (Map' m) ≡ mapping (ordered_entries (pairs_of m.entries))
tree_of_Map m = search (rules, the_lemmas)

pub items_need_push : (ts : List Tree) (t : Tree) → items_need (items_of (ts ++ t ∷ [])) ≡ max (items_need (items_of ts)) (any_need t)
items_need_push [] t = omega arith
items_need_push (u ∷ ts) t = omega (arith, items_need_push ts t)

entries_need_cond : (b : Bool) (es fs : Entries) (n : ℕ) → entries_need es ≡ n → entries_need fs ≡ n → entries_need (cond b es fs) ≡ n
entries_need_cond true es fs n p q = p
entries_need_cond false es fs n p q = q

entries_need_insert : (k : List ℕ) (t : Tree) (es : Entries) → entries_need (insert k t es) ≡ max (any_need t) (entries_need es)
entries_need_insert k t no_entries = refl
entries_need_insert k t (entry l u es) =
    entries_need_cond (comes_before k l) (entry k t (entry l u es)) (entry l u (insert k t es)) _ refl (omega (arith, entries_need_insert k t es))

-- the entries need the same number of steps in any order
pub entries_need_ordered : (ps : List (List ℕ × Tree)) → entries_need (ordered_entries ps) ≡ items_need (items_of (map (λ p. p.1) ps))
entries_need_ordered [] = refl
entries_need_ordered (p ∷ ps) = omega (arith, entries_need_insert p.0 p.1 (ordered_entries ps), entries_need_ordered ps)

-- ---- for `depth_need`, with a limit in place of the greatest `u64`

items_tree_push : (xs : List Ipld) (x : Ipld) → items_need (items_tree (xs ++ x ∷ [])) ≡ max (items_need (items_tree xs)) (any_need (tree_of x))
items_tree_push xs x = ap (λ ts. items_need (items_of ts)) (map-append tree_of xs (x ∷ [])) ∙ items_need_push (trees_of xs) (tree_of x)

greater_of : (a b : ℕ) → ord_max nat_cmp a b ≡ max a b
greater_of a b = by_ranked _ _ _ (nat_cmp b a) (ranked b a _ refl)
    (λ is lt. ap (λ o. cond (is_lt o) a b) is ∙ omega arith)
    (λ is eq. ap (λ o. cond (is_lt o) a b) is ∙ omega arith)
    (λ is gt. ap (λ o. cond (is_lt o) a b) is ∙ omega arith)

pub next_item : (xs : List Ipld) (x : Ipld) (limit i greatest need new : ℕ) → i < length xs → x ≡ get_or xs i x
    → greatest ≡ min (items_need (items_tree (take i xs))) limit → need ≡ min (any_need (tree_of x)) limit → new ≡ ord_max nat_cmp greatest need
    → new ≡ min (items_need (items_tree (take (i + 1) xs))) limit
next_item xs x limit i greatest need new within is so_far part e =
    let more : take (i + 1) xs ≡ take i xs ++ x ∷ [] = ap (λ n. take n xs) (add-one i) ∙ take-suc xs i x within ∙ ap (λ y. take i xs ++ y ∷ []) (sym is) in
    let all = ap {B = ℕ} (λ ys. items_need (items_tree ys)) more ∙ items_tree_push (take i xs) x in
    omega (arith, all, greater_of greatest need)

pub need_of_map : (j : Ipld) (m : BTreeMap (String Global) Ipld) (limit need r : ℕ) → j ≡ Map' m
    → need ≡ min (items_need (items_tree (map (λ e. e.1) m.entries))) limit → r ≡ min (need + 2) limit → r ≡ min (any_need (tree_of j)) limit
need_of_map j m limit need r is all e =
    let whole = ap any_need (ap tree_of is ∙ tree_of_Map m) in
    let each = entries_need_ordered (pairs_of m.entries) in
    let same = ap (λ ts. items_need (items_of ts)) (values_of m.entries) in
    omega (arith, whole, each, same)
  where
    values_of : (es : List IpldEntry) → map (λ p. p.1) (pairs_of es) ≡ trees_of (map (λ e. e.1) es)
    values_of [] = refl
    values_of (e ∷ es) = ap (λ ts. tree_of e.1 ∷ ts) (values_of es)

-- ---- for `try_clone`

pub tree_of_String : (s : String Global) → tree_of (String' s) ≡ text (string_bytes s)
tree_of_String s = search (rules, the_lemmas)

pub tree_of_Bytes : (v : Vec ℕ Global) → tree_of (Bytes' v) ≡ bytes v.items
tree_of_Bytes v = search (rules, the_lemmas)

pub bytes_copied : (j : Ipld) (v w : Vec ℕ Global) → j ≡ Bytes' v → w.items ≡ v.items → tree_of (Bytes' w) ≡ tree_of j
bytes_copied j v w is e = tree_of_Bytes w ∙ ap bytes e ∙ sym (tree_of_Bytes v) ∙ ap tree_of (sym is)

pairs_of_match_ordering : (o : Ordering) (a b c : List IpldEntry) → pairs_of (match_ordering o a b c) ≡ match_ordering o (pairs_of a) (pairs_of b) (pairs_of c)
pairs_of_match_ordering Less a b c = refl
pairs_of_match_ordering _ a b c = refl

-- what a `BTreeMap` does at a key, on the pairs
pub pairs_of_insert_entry : (es : List IpldEntry) (k : String Global) (j : Ipld) → pairs_of (insert_entry string_cmp es k j) ≡ insert_entry bytes_cmp (pairs_of es) (string_bytes k) (tree_of j)
pairs_of_insert_entry [] k j = refl
pairs_of_insert_entry (e ∷ es) k j =
    pairs_of_match_ordering (string_cmp k e.0) ((k, j) ∷ e ∷ es) ((e.0, j) ∷ es) (e ∷ insert_entry string_cmp es k j)
    ∙ ap (λ ps. match_ordering (string_cmp k e.0) ((string_bytes k, tree_of j) ∷ pairs_of (e ∷ es)) ((string_bytes e.0, tree_of j) ∷ pairs_of es) ((string_bytes e.0, tree_of e.1) ∷ ps)) (pairs_of_insert_entry es k j)

below_middle : (first : IpldEntry) (es : List IpldEntry) (e : IpldEntry) (more : List IpldEntry) → AllByRecursion (λ y. string_cmp first.0 y ≡ Less) (keys_of (es ++ e ∷ more)) → string_cmp first.0 e.0 ≡ Less
below_middle first [] e more h = h.0
below_middle first (x ∷ es) e more h = below_middle first es e more h.1

-- a key that is above those before it goes last
last_pair : (done : List IpldEntry) (e : IpldEntry) (more : List IpldEntry) (t : Tree) → IsStrictlySortedBy string_cmp (keys_of (done ++ e ∷ more))
    → insert_entry bytes_cmp (pairs_of done) (string_bytes e.0) t ≡ pairs_of done ++ (string_bytes e.0, t) ∷ []
unfolding IsStrictlySortedBy
last_pair [] e more t h = refl
last_pair (first ∷ done) e more t h =
    let above : bytes_cmp (string_bytes e.0) (string_bytes first.0) ≡ Greater =
    nat_list_cmp_total.antisymm (string_bytes e.0) (string_bytes first.0) ∙ ap ordering_reverse (below_middle first done e more h.0) in
    rw above (ap (λ ps. (string_bytes first.0, tree_of first.1) ∷ ps) (last_pair done e more t h.1))

pairs_of_push : (es : List IpldEntry) (e : IpldEntry) → pairs_of (es ++ e ∷ []) ≡ pairs_of es ++ (string_bytes e.0, tree_of e.1) ∷ []
pairs_of_push [] e = refl
pairs_of_push (x ∷ es) e = ap (λ ps. (string_bytes x.0, tree_of x.1) ∷ ps) (pairs_of_push es e)

pub next_entry_tree : (e : IpldEntry) (k : String Global) (j : Ipld) (entries all copies new left more : List IpldEntry) → left ≡ e ∷ more → all ≡ entries → IsStrictlySortedBy string_cmp (keys_of entries)
    → string_bytes k ≡ string_bytes e.0 → tree_of j ≡ tree_of e.1 → new ≡ insert_entry string_cmp copies k j
    → (done : List IpldEntry) × (all ≡ done ++ left) × (pairs_of copies ≡ pairs_of done) → (done : List IpldEntry) × (all ≡ done ++ more) × (pairs_of new ≡ pairs_of done)
next_entry_tree e k j entries all copies new left more is same sorted key tree put h =
    let whole : all ≡ h.0 ++ e ∷ more = h.1 ∙ ap (λ es. h.0 ++ es) is in (
      h.0 ++ e ∷ [],
      whole ∙ sym (append_assoc h.0 (e ∷ []) more),
      ap pairs_of put ∙ pairs_of_insert_entry copies k j
          ∙ (λ i. insert_entry bytes_cmp (h.2 i) (key i) (tree i))
          ∙ last_pair h.0 e more (tree_of e.1) (subst (λ es. IsStrictlySortedBy string_cmp (keys_of es)) (sym same ∙ whole) sorted)
          ∙ sym (pairs_of_push h.0 e),
    )
