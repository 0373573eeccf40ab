-- A path leads to one item at most, which is well formed.
use Rattle.std.proofs.Common.{◌≡◌, inl, inr, ℕ, zero, suc, ◌^◌, ◌<◌, List, [], ◌∷◌, ◌++◌, refl, sym, ◌∙◌, subst, arith, Less}
use Rattle.std.proofs.lemmas.Fmt.{decimal_injective}
use Rattle.ipld_tree.specs.Key.{key_cmp}
use Rattle.ipld_tree.specs.Tree.{Tree, list, mapping, Items, no_items, item, Entries, no_entries, entry, IsTree, AreItems, AreEntries}
use Rattle.ipld_tree.specs.Spelling.{IsSpellable, AreSpellableItems, AreSpellableEntries}
use Rattle.ipld_tree.proofs.Ordered.{above}
use Rattle.ipld_paths.specs.Paths.{IsItemAt, IsValueOf, IsPart, At}
use Rattle.ipld_paths.proofs.Items.{index_below}
use Rattle.ipld_paths.proofs.Entries.{rising, has_value, never_below}

abbrev pub IsWhole : Tree → Type 0
IsWhole t = IsTree t × IsSpellable t

-- ---- one segment

item_whole : (n : ℕ) (ts : Items) (u : Tree) → AreItems ts → AreSpellableItems ts → IsItemAt n ts u → IsWhole u
item_whole n no_items u p q h = absurd h
item_whole zero (item t ts) u p q h = subst IsWhole h (p.0, q.0)
item_whole (suc n) (item t ts) u p q h = item_whole n ts u p.1 q.1 h

value_whole : (key : List ℕ) (es : Entries) (u : Tree) → AreEntries es → AreSpellableEntries es → IsValueOf key es u → IsWhole u
value_whole key no_entries u p q h = absurd h
value_whole key (entry k t es) u p q (inl same) = subst IsWhole same.1 (p.1, q.1)
value_whole key (entry k t es) u p q (inr more) = value_whole key es u p.3 q.2 more

pub part_whole : (segment : List ℕ) (t u : Tree) → IsWhole t → IsPart segment t u → IsWhole u
part_whole segment (list ts) u p h = item_whole h.0 ts u p.0 p.1.1 h.2
part_whole segment (mapping es) u p h = value_whole segment es u p.0 p.1.1 h
part_whole segment _ u p h = absurd h

item_unique : (n : ℕ) (ts : Items) (u v : Tree) → IsItemAt n ts u → IsItemAt n ts v → u ≡ v
item_unique n no_items u v h k = absurd h
item_unique zero (item t ts) u v h k = sym h ∙ k
item_unique (suc n) (item t ts) u v h k = item_unique n ts u v h k

value_unique : (key : List ℕ) (es : Entries) (u v : Tree) → AreEntries es → IsValueOf key es u → IsValueOf key es v → u ≡ v
value_unique key no_entries u v p h k = absurd h
value_unique key (entry l t es) u v p (inl a) (inl b) = sym a.1 ∙ b.1
value_unique key (entry l t es) u v p (inl a) (inr m) = absurd (never_below key (subst (λ x. key_cmp x key ≡ Less) a.0 (above l es p.2 (rising es p.3) key v (has_value key es v m))))
value_unique key (entry l t es) u v p (inr m) (inl b) = absurd (never_below key (subst (λ x. key_cmp x key ≡ Less) b.0 (above l es p.2 (rising es p.3) key u (has_value key es u m))))
value_unique key (entry l t es) u v p (inr m) (inr n) = value_unique key es u v p.3 m n

pub part_unique : (segment : List ℕ) (t u v : Tree) → IsWhole t → IsPart segment t u → IsPart segment t v → u ≡ v
part_unique segment (list ts) u v p h k =
    let m : h.0 < 2 ^ 64 = omega (arith, p.1.0, index_below h.0 ts u h.2) in
    let n : k.0 < 2 ^ 64 = omega (arith, p.1.0, index_below k.0 ts v k.2) in
    item_unique k.0 ts u v (subst (λ i. IsItemAt i ts u) (decimal_injective h.0 k.0 m n (sym h.1 ∙ k.1)) h.2) k.2
part_unique segment (mapping es) u v p h k = value_unique segment es u v p.0 h k
part_unique segment _ u v p h k = absurd h

-- ---- paths

pub at_then : (path : List (List ℕ)) (segment : List ℕ) (t u part : Tree) → At path t u → IsPart segment u part → At (path ++ segment ∷ []) t part
at_then [] segment t u part h p = (part, subst (λ x. IsPart segment x part) (sym h) p, refl)
at_then (s ∷ path) segment t u part h p = (h.0, h.1, at_then path segment h.0 u part h.2 p)

pub at_after : (passed left : List (List ℕ)) (t u found : Tree) → IsWhole t → At passed t u → At (passed ++ left) t found → At left u found
at_after [] left t u found p h k = subst (λ x. At left x found) h k
at_after (s ∷ passed) left t u found p h k =
    let same = part_unique s t k.0 h.0 p k.1 h.1 in
    at_after passed left h.0 u found (part_whole s t h.0 p h.1) h.2 (subst (λ x. At (passed ++ left) x found) same k.2)

pub at_unique : (path : List (List ℕ)) (t u v : Tree) → IsWhole t → At path t u → At path t v → u ≡ v
at_unique [] t u v p h k = sym h ∙ k
at_unique (s ∷ path) t u v p h k =
    let same = part_unique s t k.0 h.0 p k.1 h.1 in
    at_unique path h.0 u v (part_whole s t h.0 p h.1) h.2 (subst (λ x. At path x v) same k.2)
