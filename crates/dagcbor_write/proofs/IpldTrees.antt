-- The trees of data of any kind, by those of its parts.
use Rattle.std.proofs.Common.{◌≡◌, ℕ, ℤ, zero, suc, arith, rules, true, false, IsTrue, inl, inr, codes, IfErr, List, [], ◌∷◌, map, Option, None, Some, Result, Vec, BTreeMap, String, Global, string_bytes, string_cmp, cond, refl, sym, ap, ◌∙◌, subst, IfSome, OnOk, option_map, option_and_then}
use Rattle.std.specs.List.Sorted.{IsStrictlySortedBy}
use Rattle.std.specs.Map.{keys_of}
use Rattle.dagcbor_core.specs.declared.error.EncodeError.{EncodeError}
use Rattle.dagcbor_heads.specs.Written.{Written, Writes}
use Rattle.ipld_tree.specs.Tree.{Tree, integer, text, list, mapping, IsTree, items_of, ordered_entries, map_tree, all_some, list_tree, pair_of, entries_tree}
use Rattle.ipld_tree.specs.Ipld.{tree_of, pairs_of}
use Rattle.ipld_tree.specs.Spelled.{spelled, spelled_tree}
use Rattle.ipld_tree.specs.declared.ipld.Ipld.{Ipld, the_lemmas, Integer as Integer', List as List', Map as Map'}
use Rattle.ipld_tree.proofs.Ordered.{test_from_distinct}
use Rattle.ipld_tree.proofs.Trees.{tree_of_List, tree_of_Map}
use Rattle.ipld_tree.proofs.WellFormed.{distinct_entries}
use Rattle.dagcbor_write.specs.Answers.{OnMessage, IsMessage, IsMessageOfAny}
use Rattle.dagcbor_write.specs.TreeMessages.{tree_message, items_message, is_integer}
use Rattle.dagcbor_write.proofs.Messages.{message_tells}

all_there : {A : Type 0} (f : A → Tree) (xs : List A) → all_some (map (λ x. Some (f x)) xs) ≡ Some (map f xs)
all_there f [] = refl
all_there f (x ∷ xs) = ap (option_map (λ more. f x ∷ more)) (all_there f xs)

pub list_kind : (j : Ipld) (v : Vec Ipld Global) → j ≡ List' v → list_tree (map (λ x. Some (tree_of x)) v.items) ≡ Some (tree_of j)
list_kind j v is = ap (option_map (λ found. list (items_of found))) (all_there tree_of v.items) ∙ ap Some (sym (tree_of_List v) ∙ ap tree_of (sym is))

abbrev pair : String Global × Ipld → Option Tree × Option Tree
pair e = (Some (text (string_bytes e.0)), Some (tree_of e.1))

all_named : (es : List (String Global × Ipld)) → all_some (map pair_of (map pair es)) ≡ Some (pairs_of es)
all_named [] = refl
all_named (e ∷ es) = ap (option_map (λ more. (string_bytes e.0, tree_of e.1) ∷ more)) (all_named es)

pub map_kind : (j : Ipld) (m : BTreeMap (String Global) Ipld) → j ≡ Map' m → IsStrictlySortedBy string_cmp (keys_of m.entries) → entries_tree (map pair m.entries) ≡ Some (tree_of j)
map_kind j m is sorted =
    ap (option_and_then map_tree) (all_named m.entries)
    ∙ ap (λ b. cond b None (Some (mapping (ordered_entries (pairs_of m.entries))))) (test_from_distinct (pairs_of m.entries) (distinct_entries m.entries sorted))
    ∙ ap Some (sym (tree_of_Map m) ∙ ap tree_of (sym is))

-- the spelling of a tree is that of the same tree under another name
pub Writes_tree : {T E : Type 0} (a : Option Tree) (t : Tree) (s u : Written) (r : Result T (EncodeError E)) → a ≡ Some t → Writes (spelled_tree a) s u r → Writes (spelled t) s u r
Writes_tree {T} {E} a t s u r e w = let P : Option Tree → Type 0 = λ x. Writes (spelled_tree x) s u r in subst P e w

pub good_tree : {T E : Type 0} (a : Option Tree) (t : Tree) (r : Result T E) → a ≡ Some t → OnOk r (IfSome a IsTree) → OnOk r (IsTree t)
good_tree {T} {E} a t r e w = let P : Option Tree → Type 0 = λ x. OnOk r (IfSome x IsTree) in subst P e w

-- ---- the message

tree_of_Integer : (n : ℤ) → tree_of (Integer' n) ≡ integer n
tree_of_Integer n = search (rules, the_lemmas)

-- the message of an integer is its own
pub integer_told : {T E Writer : Type 0} (j : Ipld) (n : ℤ) (s t : Writer) (r : Result T (EncodeError E)) → j ≡ Integer' n → IfErr r (OnMessage (λ m. (m ≡ codes "Integer must be within [-u64::MAX-1, u64::MAX] range") × (t ≡ s))) → IfErr r (OnMessage (tree_message (tree_of j)))
integer_told {T} {E} {Writer} j n s t r is h =
    let P : Tree → Type 0 = λ x. IfErr r (OnMessage (tree_message x)) in
    subst P (sym (ap tree_of is ∙ tree_of_Integer n)) (message_tells (λ m. (m ≡ codes "Integer must be within [-u64::MAX-1, u64::MAX] range") × (t ≡ s)) (tree_message (integer n)) r (λ m k. k.0) h)

items_told : (xs : List Ipld) (m : List ℕ) → IsMessageOfAny (λ x. Some (tree_of x)) (λ x. tree_message (tree_of x)) xs m → items_message (items_of (map tree_of xs)) m
items_told [] m h = absurd (omega (arith, h.2))
items_told (x ∷ xs) m (zero, y, inside, at, h) = let P : Ipld → Type 0 = λ z. (spelled (tree_of z) ≡ None) × tree_message (tree_of z) m in inl (subst P (sym at) h)
items_told (x ∷ xs) m (suc k, y, inside, at, h) = inr (items_told xs m (k, y, omega (arith, inside), at, h))

-- the message of a list is that of an item
pub list_told : {T E : Type 0} (j : Ipld) (v : Vec Ipld Global) (r : Result T (EncodeError E)) → j ≡ List' v → IfErr r (OnMessage (IsMessageOfAny (λ x. Some (tree_of x)) (λ x. tree_message (tree_of x)) v.items)) → IfErr r (OnMessage (tree_message (tree_of j)))
list_told {T} {E} j v r is h =
    let P : Tree → Type 0 = λ x. IfErr r (OnMessage (tree_message x)) in
    subst P (sym (ap tree_of is ∙ tree_of_List v)) (message_tells (IsMessageOfAny (λ x. Some (tree_of x)) (λ x. tree_message (tree_of x)) v.items) (items_message (items_of (map tree_of v.items))) r (items_told v.items) h)

-- the message of a map is that of a value
pub map_told : {T E : Type 0} (j : Ipld) (es : BTreeMap (String Global) Ipld) (r : Result T (EncodeError E)) → j ≡ Map' es → IfErr r (IsMessage (codes "Struct value cannot be serialized.")) → IfErr r (OnMessage (tree_message (tree_of j)))
map_told {T} {E} j es r is h = let P : Tree → Type 0 = λ x. IfErr r (OnMessage (tree_message x)) in subst P (sym (ap tree_of is ∙ tree_of_Map es)) h

-- a list and a map are not integers
not_integer : {P : Type 0} (t u : Tree) → t ≡ u → is_integer u ≡ false → IsTrue (is_integer t) → P
not_integer t u is e h = let differ : false ≡ true = sym e ∙ ap is_integer (sym is) ∙ search h in absurd (cc differ)

pub list_no_integer : {P : Type 0} (j : Ipld) (v : Vec Ipld Global) → j ≡ List' v → IsTrue (is_integer (tree_of j)) → P
list_no_integer j v is h = not_integer _ _ (ap tree_of is ∙ tree_of_List v) refl h

pub map_no_integer : {P : Type 0} (j : Ipld) (es : BTreeMap (String Global) Ipld) → j ≡ Map' es → IsTrue (is_integer (tree_of j)) → P
map_no_integer j es is h = not_integer _ _ (ap tree_of is ∙ tree_of_Map es) refl h
