-- Look-ups, and the stored blocks.
use Rattle.std.proofs.Common.{◌≡◌, inl, inr, ℕ, List, [], ◌∷◌, Bool, true, false, cond, Less, Equal, refl, sym, ap, ◌∙◌, subst, Some}
use Rattle.std.specs.List.{AllByRecursion}
use Rattle.std.specs.List.Sorted.{IsStrictlySortedBy}
use Rattle.std.specs.Map.{lookup, keys_of}
use Rattle.std.specs.BTreeMap.{is_at}
use Rattle.serde_ipld_dagcbor.specs.Cid.{CidParts, cid_cmp}
use Rattle.ipld_links.specs.Sets.{Among}
use Rattle.dagcbor_blocks.specs.Blocks.{block_at, FindsMembers}
use Rattle.dagcbor_blocks.proofs.Keeping.{BlockEntry, shown, block_found}
use Rattle.ipld_links.proofs.Members.{at_same, same_at, cid_equal, among_map, map_among}

pub all_among : {X : Type 0} (P : X → Type 0) (xs : List X) (x : X) → AllByRecursion P xs → Among x xs → P x
all_among P [] x h m = absurd m
all_among P (y ∷ ys) x h (inl e) = subst P (sym e) h.0
all_among P (y ∷ ys) x h (inr m) = all_among P ys x h.1 m

-- a value that is found under a name is among the entries, with the name
pub found_among : {X : Type 0} (q : CidParts) (es : List (CidParts × X)) (v : X) → lookup (is_at (cid_cmp q)) es ≡ Some v → Among (q, v) es
found_among q [] v e = absurd (cc e)
found_among q (x ∷ es) v e = by (is_at (cid_cmp q) x.0) refl e (λ l. found_among q es v l)
  where
    by : (b : Bool) → is_at (cid_cmp q) x.0 ≡ b → cond b (Some x.1) (lookup (is_at (cid_cmp q)) es) ≡ Some v → (lookup (is_at (cid_cmp q)) es ≡ Some v → Among (q, v) es) → Among (q, v) (x ∷ es)
    by true t l f = let same : x.1 ≡ v = cc l in let key = at_same q x.0 t in inl (λ i. (key i, sym same i))
    by false t l f = inr (f l)

-- if no name comes twice, an entry is found under its name
pub among_found : {X : Type 0} (q : CidParts) (v : X) (es : List (CidParts × X)) → IsStrictlySortedBy cid_cmp (keys_of es) → Among (q, v) es → lookup (is_at (cid_cmp q)) es ≡ Some v
unfolding IsStrictlySortedBy
among_found q v [] s m = absurd m
among_found q v (e ∷ es) s (inl same) = ap (λ b. cond b (Some e.1) (lookup (is_at (cid_cmp q)) es)) (same_at q e.0 (ap (λ p. p.0) same)) ∙ ap (λ p. Some p.1) (sym same)
among_found q v (e ∷ es) s (inr m) = by (is_at (cid_cmp q) e.0) refl (among_found q v es s.1 m)
  where
    by : (b : Bool) → is_at (cid_cmp q) e.0 ≡ b → lookup (is_at (cid_cmp q)) es ≡ Some v → cond b (Some e.1) (lookup (is_at (cid_cmp q)) es) ≡ Some v
    by true t l =
        let below : cid_cmp e.0 q ≡ Less = all_among (λ y. cid_cmp e.0 y ≡ Less) (keys_of es) q s.0 (among_map (λ p. p.0) (q, v) es m) in
        let differ : Equal ≡ Less = sym (cid_equal q) ∙ ap (λ n. cid_cmp n q) (at_same q e.0 t) ∙ below in absurd (cc differ)
    by false t l = l

pub finds_members : (es : List BlockEntry) → IsStrictlySortedBy cid_cmp (keys_of es) → FindsMembers (shown es)
finds_members es sorted name b = (
  found_among name (shown es) b,
  λ m.
      let e = map_among (λ (e : BlockEntry). (e.0, e.1.items)) (name, b) es m in
      ap (λ (p : CidParts × List ℕ). block_at p.0 (shown es)) e.2 ∙ block_found e.0.0 es e.0.1 (among_found e.0.0 e.0.1 es sorted e.1) ∙ ap (λ (p : CidParts × List ℕ). Some p.1) (sym e.2),
)
