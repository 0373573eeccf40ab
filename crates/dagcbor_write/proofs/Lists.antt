-- The spelling of a list, by its items.
use Rattle.std.proofs.Common.{◌≡◌, ℕ, suc, ◌+◌, List, [], ◌∷◌, length, Option, None, Some, refl, sym, ap, ap₂, ◌∙◌, add-one, map, ◌<◌, get_or, drop, take, subst, ◌≤◌, ◌++◌, drop-cons, drop_of_length-le, take_all, option_map, option_and_then, IfSome, OnOk, Result, Ok, Err}
use Rattle.std.proofs.lemmas.List.{length-map, take_more}
use Rattle.std.specs.Fmt.{◌++?◌}
use Rattle.dagcbor_heads.proofs.Writing.{append_None, append_Some, Some_append, joined_assoc, Written-but, begin_writing, join_parts}
use Rattle.dagcbor_heads.specs.Written.{Written}
use Rattle.ipld_tree.specs.Tree.{Tree, IsTree, AreItems, items_of, all_some, list_tree}
use Rattle.ipld_tree.specs.Spelling.{item_count}
use Rattle.ipld_tree.specs.Spelled.{spelled, spelled_items, spelled_tree, spelled_head}
use Rattle.dagcbor_write.specs.Each.{spelled_each, AreTrees, in_turn}

-- what a list of trees spells, without its head
abbrev spelled_some : Option (List Tree) → Option (List ℕ)
spelled_some None = None
spelled_some (Some ts) = spelled_items (items_of ts)

abbrev before : Option Tree → Option (List Tree) → Option (List Tree)
before o us = option_and_then (λ a. option_map (λ more. a ∷ more) us) o

spelled_with : (o : Option Tree) (us : Option (List Tree)) → spelled_some (before o us) ≡ spelled_tree o ++? spelled_some us
unfolding spelled
spelled_with None us = refl
spelled_with (Some t) None = sym (append_None (spelled t))
spelled_with (Some t) (Some ts) = refl

spelled_trees : (os : List (Option Tree)) → spelled_some (all_some os) ≡ spelled_each os
unfolding spelled
spelled_trees [] = refl
spelled_trees (o ∷ os) = spelled_with o (all_some os) ∙ ap (λ (x : Option (List ℕ)). spelled_tree o ++? x) (spelled_trees os)

-- the count of the trees, if there are any
abbrev Counts : Option (List Tree) → ℕ → Type 0
Counts us n = IfSome us (λ ts. item_count (items_of ts) ≡ n)

counts_with : (o : Option Tree) (us : Option (List Tree)) (n : ℕ) → Counts us n → Counts (before o us) (suc n)
counts_with None us n c = tt
counts_with (Some t) None n c = tt
counts_with (Some t) (Some ts) n c = ap suc c

counts_trees : (os : List (Option Tree)) → Counts (all_some os) (length os)
counts_trees [] = refl
counts_trees (o ∷ os) = counts_with o (all_some os) (length os) (counts_trees os)

spelled_by : (us : Option (List Tree)) (n : ℕ) → Counts us n → spelled_tree (option_map (λ found. Tree.list (items_of found)) us) ≡ spelled_head 4 n ++? spelled_some us
unfolding spelled
spelled_by None n c = sym (append_None (spelled_head 4 n))
spelled_by (Some ts) n c = ap (λ (k : ℕ). spelled_head 4 k ++? spelled_items (items_of ts)) c

pub spelled_list : (os : List (Option Tree)) → spelled_tree (list_tree os) ≡ spelled_head 4 (length os) ++? spelled_each os
spelled_list os = spelled_by (all_some os) (length os) (counts_trees os) ∙ ap (λ (x : Option (List ℕ)). spelled_head 4 (length os) ++? x) (spelled_trees os)

pub each_joined : (os : List (Option Tree)) → spelled_each os ≡ join_parts (map spelled_tree os)
each_joined [] = refl
each_joined (o ∷ os) = ap (λ (x : Option (List ℕ)). spelled_tree o ++? x) (each_joined os)

pub begin_list : (os : List (Option Tree)) (s : Written) → Written-but (spelled_tree (list_tree os)) (spelled_head 4 (length os) ∷ map spelled_tree os) s s
begin_list os s = begin_writing (spelled_tree (list_tree os)) (spelled_head 4 (length os) ∷ map spelled_tree os) s (spelled_list os ∙ ap (λ (x : Option (List ℕ)). spelled_head 4 (length os) ++? x) (each_joined os))

-- the spelling of each item of two lists, one after the other, is that of the one and of the other
each_append : (xs ys : List (Option Tree)) → spelled_each (xs ++ ys) ≡ spelled_each xs ++? spelled_each ys
each_append [] ys = sym (Some_append (spelled_each ys))
each_append (x ∷ xs) ys = ap (λ (t : Option (List ℕ)). spelled_tree x ++? t) (each_append xs ys) ∙ sym (joined_assoc (spelled_tree x) (spelled_each xs) (spelled_each ys))

pub begin_parts : (a b c d : List (Option Tree)) (n : ℕ) (s : Written) → n ≡ length (in_turn a b c d) → Written-but (spelled_tree (list_tree (in_turn a b c d))) (spelled_head 4 n ∷ spelled_each a ∷ spelled_each b ∷ spelled_each c ∷ spelled_each d ∷ []) s s
begin_parts a b c d n s e =
    let parts : spelled_each (in_turn a b c d) ≡ join_parts (spelled_each a ∷ spelled_each b ∷ spelled_each c ∷ spelled_each d ∷ []) =
    each_append a (b ++ (c ++ d)) ∙ ap (λ (x : Option (List ℕ)). spelled_each a ++? x) (each_append b (c ++ d) ∙ ap (λ (x : Option (List ℕ)). spelled_each b ++? x) (each_append c d ∙ ap (λ (x : Option (List ℕ)). spelled_each c ++? x) (sym (append_Some (spelled_each d))))) in
    begin_writing _ _ s (spelled_list (in_turn a b c d) ∙ ap₂ (λ k (x : Option (List ℕ)). spelled_head 4 k ++? x) (sym e) parts)

-- a list of the values xs, whose number is n, begins with its head
pub begin_items : {A : Type 0} (tree : A → Option Tree) (xs : List A) (n : ℕ) (s : Written) → n ≡ length xs → Written-but (spelled_tree (list_tree (map tree xs))) (spelled_head 4 n ∷ map spelled_tree (map tree xs)) s s
begin_items tree xs n s e =
    let P : ℕ → Type 0 = λ k. Written-but (spelled_tree (list_tree (map tree xs))) (spelled_head 4 k ∷ map spelled_tree (map tree xs)) s s in
    subst P (length-map xs tree ∙ sym e) (begin_list (map tree xs) s)

-- the parts that are left at an item: its spelling, and what is left after it
pub at_item : {A : Type 0} (tree : A → Option Tree) (xs : List A) (i : ℕ) (x : A) → i < length xs → x ≡ get_or xs i x → (whole : Option (List ℕ)) (s t : Written) → Written-but whole (map spelled_tree (map tree (drop i xs))) s t → Written-but whole (spelled_tree (tree x) ∷ map spelled_tree (map tree (drop (i + 1) xs))) s t
at_item {A} tree xs i x h e whole s t w =
    let P : List A → Type 0 = λ ys. Written-but whole (map spelled_tree (map tree ys)) s t in
    let there : get_or xs i x ∷ drop (i + 1) xs ≡ x ∷ drop (i + 1) xs = ap (λ (y : A). y ∷ drop (i + 1) xs) (sym e) in
    let begins : drop i xs ≡ get_or xs i x ∷ drop (i + 1) xs = rw add-one (drop-cons xs i x h) in
    subst P (begins ∙ there) w

-- no part is left after the last item
pub at-end : {A : Type 0} (tree : A → Option Tree) (xs : List A) (i : ℕ) → length xs ≤ i → (whole : Option (List ℕ)) (s t : Written) → Written-but whole (map spelled_tree (map tree (drop i xs))) s t → Written-but whole [] s t
at-end {A} tree xs i h whole s t w =
    let P : List A → Type 0 = λ ys. Written-but whole (map spelled_tree (map tree ys)) s t in
    subst P (drop_of_length-le xs h) w

-- ---- well formed

tree_with : (o : Option Tree) (us : Option (List Tree)) → IfSome o IsTree → IfSome us (λ ts. AreItems (items_of ts)) → IfSome (before o us) (λ ts. AreItems (items_of ts))
tree_with None us h k = tt
tree_with (Some t) None h k = tt
tree_with (Some t) (Some ts) h k = (h, k)

trees_good : (os : List (Option Tree)) → AreTrees os → IfSome (all_some os) (λ ts. AreItems (items_of ts))
trees_good [] h = tt
trees_good (o ∷ os) h = tree_with o (all_some os) h.0 (trees_good os h.1)

list_good : (us : Option (List Tree)) → IfSome us (λ ts. AreItems (items_of ts)) → IfSome (option_map (λ found. Tree.list (items_of found)) us) IsTree
list_good None h = tt
list_good (Some ts) h = h

-- a list of well-formed trees is well formed
pub list_IsTree : (os : List (Option Tree)) → AreTrees os → IfSome (list_tree os) IsTree
list_IsTree os h = list_good (all_some os) (trees_good os h)

trees_append : (xs ys : List (Option Tree)) → AreTrees xs → AreTrees ys → AreTrees (xs ++ ys)
trees_append [] ys h k = k
trees_append (x ∷ xs) ys h k = (h.0, trees_append xs ys h.1 k)

pub parts_IsTree : {T E : Type 0} (a b c d : List (Option Tree)) (r : Result T E) → AreTrees a → AreTrees b → AreTrees c → OnOk r (AreTrees d) → OnOk r (IfSome (list_tree (in_turn a b c d)) IsTree)
parts_IsTree a b c d (Ok x) h k l m = list_IsTree (in_turn a b c d) (trees_append a (b ++ (c ++ d)) h (trees_append b (c ++ d) k (trees_append c d l m)))
parts_IsTree a b c d (Err e) h k l m = tt

are_trees_push : (os : List (Option Tree)) (o : Option Tree) → AreTrees os → IfSome o IsTree → AreTrees (os ++ o ∷ [])
are_trees_push [] o h k = (k, tt)
are_trees_push (p ∷ os) o h k = (h.0, are_trees_push os o h.1 k)

map_more : {A B : Type 0} (f : A → B) (xs : List A) (y : A) → map f (xs ++ y ∷ []) ≡ map f xs ++ f y ∷ []
map_more f [] y = refl
map_more f (x ∷ xs) y = ap (λ ys. f x ∷ ys) (map_more f xs y)

-- one more of the values has a well-formed tree
pub AreTrees_next : {A : Type 0} (tree : A → Option Tree) (xs : List A) (i : ℕ) (x : A) → i < length xs → x ≡ get_or xs i x → AreTrees (map tree (take i xs)) → IfSome (tree x) IsTree → AreTrees (map tree (take (i + 1) xs))
AreTrees_next {A} tree xs i x h e all one =
    let last : take i xs ++ x ∷ [] ≡ take (i + 1) xs = ap (λ (y : A). take i xs ++ y ∷ []) e ∙ sym (take_more xs i x h) in
    let P : List A → Type 0 = λ ys. AreTrees (map tree ys) in
    let Q : List (Option Tree) → Type 0 = λ os. AreTrees os in
    subst P last (subst Q (sym (map_more tree (take i xs) x)) (are_trees_push (map tree (take i xs)) (tree x) all one))

pub AreTrees_all : {A : Type 0} (tree : A → Option Tree) (xs : List A) (i : ℕ) → length xs ≤ i → AreTrees (map tree (take i xs)) → IfSome (list_tree (map tree xs)) IsTree
AreTrees_all {A} tree xs i h all =
    let P : List A → Type 0 = λ ys. AreTrees (map tree ys) in list_IsTree (map tree xs) (subst P (take_all i xs h) all)

pub OnOk_of : {T E P : Type 0} (r : Result T E) → P → OnOk r P
OnOk_of (Ok x) p = p
OnOk_of (Err e) p = tt
