-- Items that wait for their number.
use Rattle.std.proofs.Common.{◌≡◌, ℕ, ◌+◌, ◌<◌, List, [], ◌∷◌, ◌++◌, length, Option, None, Some, Result, Ok, Err, refl, sym, ap, ◌∙◌, map, get_or, take, subst, arith, length-append, zero, suc, ◌≤◌, take_all, IsErrAnd, IsOk}
use Rattle.std.proofs.lemmas.List.{take_more, length-map}
use Rattle.std.specs.Fmt.{◌++?◌}
use Rattle.dagcbor_core.specs.declared.error.EncodeError.{EncodeError}
use Rattle.dagcbor_core.specs.declared.error.EncodeError.TheVariants.{Msg, Write, OutOfMemory}
use Rattle.dagcbor_heads.specs.Written.{Written, WroteAll, Writes}
use Rattle.dagcbor_heads.proofs.Writing.{join_parts, joined_assoc, append_Some, Some_append, append_None, appends_nothing, wrote_nothing, Written-but, begin_writing}
use Rattle.dagcbor_write.specs.Gathering.{AppendsTo}
use Rattle.dagcbor_write.specs.Each.{spelled_each}
use Rattle.dagcbor_write.specs.declared.collect.collect_seq.ListState.{ListState}
use Rattle.dagcbor_write.specs.declared.collect.collect_seq.ListState.TheVariants.{Announced, Waits}
use Rattle.ipld_tree.specs.Tree.{Tree, list_tree}
use Rattle.ipld_tree.specs.Spelled.{spelled_tree, spelled_head}
use Rattle.dagcbor_write.specs.Lists.{IsFresh, HasRoom, IsComplete, TakesElement, waiting_text}
use Rattle.dagcbor_write.proofs.Lists.{spelled_list, each_joined}

-- the items that wait are these texts
abbrev pub Holds : ListState → List (Option (List ℕ)) → Type 0
Holds (Announced left) texts = ⊥
Holds (Waits b) texts = (join_parts texts ≡ Some b.bytes) × (b.count ≡ length texts)

pub Holds_room : (items : ListState) (texts : List (Option (List ℕ))) → Holds items texts → HasRoom items
Holds_room (Announced left) texts h = absurd h
Holds_room (Waits b) texts h = tt

pub Holds_complete : (items : ListState) (texts : List (Option (List ℕ))) → Holds items texts → IsComplete items
Holds_complete (Announced left) texts h = absurd h
Holds_complete (Waits b) texts h = tt

pub Holds_none : (items : ListState) → IsFresh None items → Holds items []
Holds_none (Announced left) f = absurd f
Holds_none (Waits b) f = (ap (λ w. Some w.bytes) (sym f), ap (λ w. w.count) f)

joined_append : (xs : List (Option (List ℕ))) (o : Option (List ℕ)) → join_parts (xs ++ o ∷ []) ≡ join_parts xs ++? o
joined_append [] o = append_Some o ∙ sym (Some_append o)
joined_append (x ∷ xs) o = ap (λ (y : Option (List ℕ)). x ++? y) (joined_append xs o) ∙ sym (joined_assoc x (join_parts xs) o)

Grows_joins : (text : Option (List ℕ)) (old new : List ℕ) (a : Option (List ℕ)) → a ≡ Some old → AppendsTo old new text → a ++? text ≡ Some new
Grows_joins None old new a e g = absurd g
Grows_joins (Some t) old new a e g = ap (λ (x : Option (List ℕ)). x ++? Some t) e ∙ ap Some (sym g)

-- one more item waits
pub Holds-more : {E : Type 0} (items : ListState) (texts : List (Option (List ℕ))) (tree : Option Tree) (s : Written) (left : ListState) (t : Written) (r : Result (Unit {0}) (EncodeError E)) → Holds items texts → IsOk r → TakesElement tree items s left t r → Holds left (texts ++ spelled_tree tree ∷ []) × (t ≡ s)
Holds-more (Announced n) texts tree s left t r h k p = absurd h
Holds-more (Waits b) texts tree s (Announced n) t r h k p = absurd p
Holds-more (Waits b) texts tree s (Waits d) t (Err e) h k p = cc
Holds-more (Waits b) texts tree s (Waits d) t (Ok x) h k p =
    ((joined_append texts (spelled_tree tree) ∙ Grows_joins (spelled_tree tree) _ _ (join_parts texts) h.0 p.0.0.0, p.0.1 ∙ ap (λ (n : ℕ). n + 1) h.1 ∙ sym (length-append texts (spelled_tree tree ∷ []))), p.1)

-- an item was refused
pub Holds_refused : {T E : Type 0} (items : ListState) (texts : List (Option (List ℕ))) (tree : Option Tree) (s : Written) (left : ListState) (t : Written) (e : EncodeError E) (r : Result T (EncodeError E)) (whole : Option (List ℕ)) → Holds items texts → TakesElement {T = Unit {0}} tree items s left t (Err e) → (spelled_tree tree ≡ None → whole ≡ None) → IsErrAnd r (λ d. d ≡ e) → Writes whole s t r
Holds_refused (Announced n) texts tree s left t e r whole h p f k = absurd h
Holds_refused (Waits b) texts tree s (Announced n) t e r whole h p f k = absurd p
Holds_refused (Waits b) texts tree s (Waits d) t e (Ok x) whole h p f k = absurd k
Holds_refused {T} {E} (Waits b) texts tree s (Waits d) t (Msg m) (Err e) whole h p f k =
    let P : Written → Type 0 = λ u. Writes {T = T} whole s u (Err e) in let Q : EncodeError E → Type 0 = λ d. Writes {T = T} whole s s (Err d) in
    subst P (sym p.1) (subst Q (sym k) (f p.0.1, appends_nothing s.bytes, refl, refl))
Holds_refused (Waits b) texts tree s (Waits d) t (Write x) (Err e) whole h p f k = absurd p.0
Holds_refused {T} {E} (Waits b) texts tree s (Waits d) t OutOfMemory (Err e) whole h p f k =
    let P : Written → Type 0 = λ u. Writes {T = T} whole s u (Err e) in let Q : EncodeError E → Type 0 = λ d. Writes {T = T} whole s s (Err d) in
    subst P (sym p.1) (subst Q (sym k) (wrote_nothing whole s, refl, refl))

-- what waits is the list of the trees
pub Holds_list : (items : ListState) (os : List (Option Tree)) → Holds items (map spelled_tree os) → waiting_text items ≡ spelled_tree (list_tree os)
Holds_list (Announced n) os h = absurd h
Holds_list (Waits b) os h =
    ap (λ (k : ℕ). spelled_head 4 k ++? Some b.bytes) (h.1 ∙ length-map os spelled_tree) ∙
    ap (λ (x : Option (List ℕ)). spelled_head 4 (length os) ++? x) (sym h.0 ∙ sym (each_joined os)) ∙ sym (spelled_list os)

none_each : {A : Type 0} (tree : A → Option Tree) (xs : List A) (i : ℕ) (x : A) → i < length xs → x ≡ get_or xs i x → spelled_tree (tree x) ≡ None → spelled_each (map tree xs) ≡ None
none_each {A} tree [] i x h e n = absurd (omega (arith, h))
none_each {A} tree (y ∷ ys) zero x h e n =
    let first : spelled_tree (tree y) ≡ None = ap (λ (z : A). spelled_tree (tree z)) (sym e) ∙ n in
    ap (λ (b : Option (List ℕ)). b ++? spelled_each (map tree ys)) first
none_each {A} tree (y ∷ ys) (suc i) x h e n = ap (λ (b : Option (List ℕ)). spelled_tree (tree y) ++? b) (none_each tree ys i x (omega (arith, h)) e n) ∙ append_None (spelled_tree (tree y))

-- a list with an item that has no text has no text
pub none_among : {A : Type 0} (tree : A → Option Tree) (xs : List A) (i : ℕ) (x : A) → i < length xs → x ≡ get_or xs i x → spelled_tree (tree x) ≡ None → spelled_tree (list_tree (map tree xs)) ≡ None
none_among tree xs i x h e n = spelled_list (map tree xs) ∙ ap (λ (a : Option (List ℕ)). spelled_head 4 (length (map tree xs)) ++? a) (none_each tree xs i x h e n) ∙ append_None (spelled_head 4 (length (map tree xs)))

pub begin_later : (whole : Option (List ℕ)) (s : Written) → Written-but whole (Some [] ∷ whole ∷ []) s s
begin_later whole s = begin_writing whole (Some [] ∷ whole ∷ []) s (sym (append_Some whole) ∙ sym (Some_append (whole ++? Some [])))

map_more : {A B : Type 0} (f : A → B) (xs : List A) (y : A) → map f (xs ++ y ∷ []) ≡ map f xs ++ f y ∷ []
map_more f [] y = refl
map_more f (x ∷ xs) y = ap (λ ys. f x ∷ ys) (map_more f xs y)

texts_more : {A : Type 0} (tree : A → Option Tree) (xs : List A) (i : ℕ) (x : A) → i < length xs → x ≡ get_or xs i x → map spelled_tree (map tree (take i xs)) ++ spelled_tree (tree x) ∷ [] ≡ map spelled_tree (map tree (take (i + 1) xs))
texts_more {A} tree xs i x h e =
    let last : take i xs ++ x ∷ [] ≡ take (i + 1) xs = ap (λ (y : A). take i xs ++ y ∷ []) e ∙ sym (take_more xs i x h) in
    sym (map_more spelled_tree (map tree (take i xs)) (tree x)) ∙ ap (λ (os : List (Option Tree)). map spelled_tree os) (sym (map_more tree (take i xs) x) ∙ ap (λ (ys : List A). map tree ys) last)

-- a loop that goes over the items holds one more
pub Holds_next : {E : Type 0} {A : Type 0} (tree : A → Option Tree) (xs : List A) (i : ℕ) (x : A) (items : ListState) (start s : Written) (left : ListState) (t : Written) (r : Result (Unit {0}) (EncodeError E)) → i < length xs → x ≡ get_or xs i x → Holds items (map spelled_tree (map tree (take i xs))) → WroteAll (Some []) start s → IsOk r → TakesElement (tree x) items s left t r → Holds left (map spelled_tree (map tree (take (i + 1) xs))) × WroteAll (Some []) start t
Holds_next tree xs i x items start s left t r h e holds nothing k p =
    let P : List (Option (List ℕ)) → Type 0 = λ texts. Holds left texts in
    let Q : Written → Type 0 = λ u. WroteAll (Some []) start u in
    let m = Holds-more items (map spelled_tree (map tree (take i xs))) (tree x) s left t r holds k p in
    (subst P (texts_more tree xs i x h e) m.0, subst Q (sym m.1) nothing)

pub Holds_all : {A : Type 0} (tree : A → Option Tree) (xs : List A) (i : ℕ) (items : ListState) → length xs ≤ i → Holds items (map spelled_tree (map tree (take i xs))) → waiting_text items ≡ spelled_tree (list_tree (map tree xs))
Holds_all {A} tree xs i items h holds =
    let P : List A → Type 0 = λ ys. Holds items (map spelled_tree (map tree ys)) in
    Holds_list items (map tree xs) (subst P (take_all i xs h) holds)
