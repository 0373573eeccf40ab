-- Two lists or maps with one tree have the same items or entries.
use Rattle.std.proofs.Common.{◌≡◌, inl, inr, ℕ, List, [], ◌∷◌, Bool, Less, Equal, String, Vec, BTreeMap, Global, string_bytes, string_cmp, refl, sym, ap, ◌∙◌, IsTrue, ◌↔◌}
use Rattle.std.proofs.lemmas.Cmp.{nat_list_cmp_total, tied_itself}
use Rattle.std.specs.List.{AllByRecursion}
use Rattle.std.specs.List.Sorted.{IsStrictlySortedBy}
use Rattle.std.specs.Map.{keys_of}
use Rattle.ipld_tree.specs.Key.{bytes_cmp}
use Rattle.ipld_tree.specs.Tree.{Tree, list, mapping, Items, no_items, item, Entries, no_entries, items_of, ordered_entries}
use Rattle.ipld_tree.specs.Ipld.{tree_of, trees_of, pairs_of}
use Rattle.ipld_tree.specs.declared.ipld.Ipld.{Ipld, List as List', Map as Map'}
use Rattle.ipld_tree.proofs.Ordered.{KeyAndTree, HasPair, ordered_has, has_ordered}
use Rattle.ipld_tree.proofs.Trees.{IpldEntry, tree_of_List, tree_of_Map}

-- ---- lists

abbrev inner : Tree → Items
inner (list ts) = ts
inner _ = no_items

abbrev trees_in : Items → List Tree
trees_in no_items = []
trees_in (item t ts) = t ∷ trees_in ts

trees_in_items_of : (ts : List Tree) → trees_in (items_of ts) ≡ ts
trees_in_items_of [] = refl
trees_in_items_of (t ∷ ts) = ap (λ us. t ∷ us) (trees_in_items_of ts)

pub lists_same : (j k : Ipld) (v w : Vec Ipld Global) (xs ys : List Ipld) (b : Bool) → j ≡ List' v → k ≡ List' w → xs ≡ v.items → ys ≡ w.items
    → IsTrue b ↔ (trees_of xs ≡ trees_of ys) → IsTrue b ↔ (tree_of j ≡ tree_of k)
lists_same j k v w xs ys b p q is are h =
    let left : tree_of j ≡ list (items_of (trees_of xs)) = ap tree_of p ∙ tree_of_List v ∙ ap (λ zs. list (items_of (trees_of zs))) (sym is) in
    let right : tree_of k ≡ list (items_of (trees_of ys)) = ap tree_of q ∙ tree_of_List w ∙ ap (λ zs. list (items_of (trees_of zs))) (sym are) in (
      λ t. left ∙ ap (λ ts. list (items_of ts)) (h.0 t) ∙ sym right,
      λ e. h.1 (sym (trees_in_items_of (trees_of xs)) ∙ ap (λ x. trees_in (inner x)) (sym left ∙ e ∙ right) ∙ trees_in_items_of (trees_of ys)),
    )

-- ---- maps

abbrev within : Tree → Entries
within (mapping es) = es
within _ = no_entries

abbrev IsSorted : List KeyAndTree → Type 0
IsSorted ps = IsStrictlySortedBy bytes_cmp (keys_of ps)

pub differs : (k l : List ℕ) → bytes_cmp k l ≡ Less → k ≡ l → ⊥
differs k l h e = let clash : Equal ≡ Less = sym (tied_itself nat_list_cmp_total k) ∙ ap (bytes_cmp k) e ∙ h in absurd (cc clash)

below : (k : List ℕ) (ps : List KeyAndTree) → AllByRecursion (λ l. bytes_cmp k l ≡ Less) (keys_of ps) → (l : List ℕ) (t : Tree) → HasPair ps l t → bytes_cmp k l ≡ Less
below k [] a l t h = absurd h
below k (p ∷ ps) a l t (inl same) = ap (bytes_cmp k) (sym same.0) ∙ a.0
below k (p ∷ ps) a l t (inr more) = below k ps a.1 l t more

heads : (p q : KeyAndTree) (ps qs : List KeyAndTree) → AllByRecursion (λ l. bytes_cmp p.0 l ≡ Less) (keys_of ps) → AllByRecursion (λ l. bytes_cmp q.0 l ≡ Less) (keys_of qs) → HasPair (q ∷ qs) p.0 p.1 → HasPair (p ∷ ps) q.0 q.1 → (p.0 ≡ q.0) × (p.1 ≡ q.1)
heads p q ps qs a b (inl same) h = (sym same.0, sym same.1)
heads p q ps qs a b (inr g) (inl same) = (same.0, same.1)
heads p q ps qs a b (inr g) (inr h) = absurd (differs p.0 p.0 (nat_list_cmp_total.trans p.0 q.0 p.0 (below p.0 ps a q.0 q.1 h) (below q.0 qs b p.0 p.1 g)) refl)

others : (p q : KeyAndTree) (ps qs : List KeyAndTree) (m : List ℕ) (v : Tree) → AllByRecursion (λ l. bytes_cmp p.0 l ≡ Less) (keys_of ps) → p.0 ≡ q.0 → HasPair ps m v → HasPair (q ∷ qs) m v → HasPair qs m v
others p q ps qs m v a e h (inl same) = absurd (differs p.0 m (below p.0 ps a m v h) (e ∙ same.0))
others p q ps qs m v a e h (inr more) = more

same_pairs : (ps qs : List KeyAndTree) → IsSorted ps → IsSorted qs → ((k : List ℕ) (t : Tree) → HasPair ps k t → HasPair qs k t) → ((k : List ℕ) (t : Tree) → HasPair qs k t → HasPair ps k t) → ps ≡ qs
unfolding IsStrictlySortedBy
same_pairs [] [] r s f g = refl
same_pairs [] (q ∷ qs) r s f g = absurd (g q.0 q.1 (inl (refl, refl)))
same_pairs (p ∷ ps) [] r s f g = absurd (f p.0 p.1 (inl (refl, refl)))
same_pairs (p ∷ ps) (q ∷ qs) r s f g =
    let first = heads p q ps qs r.0 s.0 (f p.0 p.1 (inl (refl, refl))) (g q.0 q.1 (inl (refl, refl))) in
    let more = same_pairs ps qs r.1 s.1
    (λ m v h. others p q ps qs m v r.0 first.0 h (f m v (inr h)))
    (λ m v h. others q p qs ps m v s.0 (sym first.0) h (g m v (inr h))) in
    λ i. (first.0 i, first.1 i) ∷ more i

same_from_ordered : (ps qs : List KeyAndTree) → IsSorted ps → IsSorted qs → ordered_entries ps ≡ ordered_entries qs → ps ≡ qs
same_from_ordered ps qs r s e = same_pairs ps qs r s
    (λ k t h. has_ordered qs k t (rw (sym e) (ordered_has ps k t h)))
    (λ k t h. has_ordered ps k t (rw e (ordered_has qs k t h)))

all_named : (k : String Global) (es : List IpldEntry) → AllByRecursion (λ l. string_cmp k l ≡ Less) (keys_of es) → AllByRecursion (λ l. bytes_cmp (string_bytes k) l ≡ Less) (keys_of (pairs_of es))
all_named k [] h = tt
all_named k (e ∷ es) h = (h.0, all_named k es h.1)

pub sorted_pairs : (es : List IpldEntry) → IsStrictlySortedBy string_cmp (keys_of es) → IsSorted (pairs_of es)
unfolding IsStrictlySortedBy
sorted_pairs [] h = tt
sorted_pairs (e ∷ es) h = (all_named e.0 es h.0, sorted_pairs es h.1)

pub maps_same : (j k : Ipld) (m n : BTreeMap (String Global) Ipld) (b : Bool) → j ≡ Map' m → k ≡ Map' n
    → IsStrictlySortedBy string_cmp (keys_of m.entries) → IsStrictlySortedBy string_cmp (keys_of n.entries)
    → IsTrue b ↔ (pairs_of m.entries ≡ pairs_of n.entries) → IsTrue b ↔ (tree_of j ≡ tree_of k)
maps_same j k m n b p q r s h =
    let left : tree_of j ≡ mapping (ordered_entries (pairs_of m.entries)) = ap tree_of p ∙ tree_of_Map m in
    let right : tree_of k ≡ mapping (ordered_entries (pairs_of n.entries)) = ap tree_of q ∙ tree_of_Map n in (
      λ t. left ∙ ap (λ ps. mapping (ordered_entries ps)) (h.0 t) ∙ sym right,
      λ e. h.1 (same_from_ordered (pairs_of m.entries) (pairs_of n.entries) (sorted_pairs m.entries r) (sorted_pairs n.entries s) (ap within (sym left ∙ e ∙ right))),
    )
