-- One segment, by the head of the item.
use Rattle.std.proofs.Common.{◌≡◌, ℕ, ◌^◌, ◌<◌, ◌≤◌, List, ◌++◌, length, take, drop, refl, sym, ap, ◌∙◌, subst, arith, append_assoc, Option, None, Some, MatchOption, IfSome}
use Rattle.std.proofs.lemmas.Fmt.{decimal_injective}
use Rattle.std.proofs.lemmas.List.{take-append-drop}
use Rattle.std.proofs.Math.Seq.{take-append_seam, drop-append_seam}
use Rattle.std.specs.Fmt.{decimal}
use Rattle.dagcbor_core.specs.Head.{head}
use Rattle.dagcbor_core.specs.Splits.{SplitsHead, BeginsWithHead}
use Rattle.ipld_tree.specs.Tree.{Tree, text, list, mapping, Items, any_need, items_need}
use Rattle.ipld_tree.specs.Spelling.{item_count, IsFront, AreFronts}
use Rattle.ipld_tree.proofs.Unique.{major}
use Rattle.ipld_tree.proofs.Fronts.{is_list, is_mapping, list_opened, map_opened}
use Rattle.dagcbor_decode.specs.Fronts.{SplitsPayload}
use Rattle.dagcbor_items.specs.Skips.{FindsAfterItems}
use Rattle.dagcbor_items.proofs.Skipping.{items_found, ends_within}
use Rattle.dagcbor_decode.proofs.Fronts.{head_opened, no_front, text_opened, too_few}
use Rattle.ipld_paths.specs.Paths.{IsItemAt, IsPart}
use Rattle.ipld_paths.specs.Parts.{EndsWith, GivesPart, FindsItem, FindsValue, FindsPart}
use Rattle.ipld_paths.proofs.Items.{index_below, item_begins, some_items}
use Rattle.ipld_paths.proofs.Entries.{IsNextKey}

-- ---- keys

pub too_few_for_key : (m n : ℕ) (b c : List ℕ) → SplitsHead b m n c → length c < n → (key rest : List ℕ) → IsFront b (text key) rest → ⊥
too_few_for_key m n b c h few key rest f = too_few n c key rest few (text_opened m n b c key rest h f).1.1

cut : (n : ℕ) (c s rest : List ℕ) → SplitsPayload c n s rest → (take n c ≡ s) × (drop n c ≡ rest)
cut n c s rest p = (
  ap (λ k. take k c) (sym p.0) ∙ ap (take (length s)) p.1 ∙ take-append_seam s rest,
  ap (λ k. drop k c) (sym p.0) ∙ ap (drop (length s)) p.1 ∙ drop-append_seam s rest,
)

pub key_split : (m n : ℕ) (b c front back : List ℕ) → SplitsHead b m n c → front ≡ take n c → back ≡ drop n c → IsNextKey b front back
key_split m n b c front back h x y key rest f =
    let p = cut n c key rest (text_opened m n b c key rest h f).1.1 in
    (x ∙ p.0, y ∙ p.1)

pub after_head : (m n : ℕ) (b c s : List ℕ) → SplitsHead b m n c → EndsWith c s → EndsWith b s
after_head m n b c s h e = (head m n ++ e.0, h.2 ∙ ap (λ x. head m n ++ x) e.1 ∙ sym (append_assoc (head m n) e.0 s))

pub dropped_end : (n : ℕ) (c back : List ℕ) → back ≡ drop n c → EndsWith c back
dropped_end n c back e = (take n c, sym (take-append-drop n c) ∙ ap (λ x. take n c ++ x) (sym e))

-- ---- items

pub no_item_of : {A : Type 0} (bytes_of : A → List ℕ) (b : List ℕ) (count n : ℕ) → count ≤ n → FindsItem {A = A} bytes_of b count n None
no_item_of bytes_of b count n many = λ ts rest f e need t h. omega (arith, many, e, index_below n ts t h)

item_there : {A : Type 0} (bytes_of : A → List ℕ) (b at rest : List ℕ) (n : ℕ) (ts us : Items) (r : Option A) → AreFronts b ts rest → items_need ts ≤ 256 → AreFronts b us at → item_count us ≡ n → n < item_count ts → MatchOption r ⊥ (λ a. bytes_of a ≡ at) → GivesPart bytes_of (IsItemAt n ts) r
item_there bytes_of b at rest n ts us None f need g e few m = absurd m
item_there bytes_of b at rest n ts us (Some a) f need g e few m = item_begins n ts us b (bytes_of a) rest f need (subst (AreFronts b us) (sym m) g) e few

pub item_found : {A : Type 0} (bytes_of : A → List ℕ) (b : List ℕ) (count n : ℕ) (r : Option A) → n < count → FindsAfterItems bytes_of b n r → FindsItem bytes_of b count n r
item_found bytes_of b count n r few found = λ ts rest f e need.
    let k = some_items n ts b rest f need (omega (arith, few, e)) in
    item_there bytes_of b k.0 rest n ts k.1.0 r f need k.1.2 k.1.1 (omega (arith, few, e)) (items_found bytes_of b k.0 n k.1.0 r found k.1.2 k.1.1)

pub item_within : {A : Type 0} (bytes_of : A → List ℕ) (b : List ℕ) (n : ℕ) (r : Option A) → FindsAfterItems bytes_of b n r → IfSome r (λ a. EndsWith b (bytes_of a))
item_within bytes_of b n None found = tt
item_within bytes_of b n (Some a) found = ends_within b (bytes_of a) n found

-- ---- parts

list_given : {A : Type 0} (bytes_of : A → List ℕ) (segment : List ℕ) (n : ℕ) (ts : Items) (r : Option A) → item_count ts < 2 ^ 64 → n < 2 ^ 64 → segment ≡ decimal n → GivesPart bytes_of (IsItemAt n ts) r → GivesPart bytes_of (IsPart segment (list ts)) r
list_given bytes_of segment n ts None fits small is none = λ t k.
    let below : k.0 < 2 ^ 64 = omega (arith, fits, index_below k.0 ts t k.2) in
    none t (subst (λ m. IsItemAt m ts t) (decimal_injective k.0 n below small (sym k.1 ∙ is)) k.2)
list_given bytes_of segment n ts (Some a) fits small is k = (k.0, (n, is, k.1), k.2)

pub list_part : {A : Type 0} (bytes_of : A → List ℕ) (segment b c : List ℕ) (count n : ℕ) (r : Option A) → SplitsHead b 4 count c → n < 2 ^ 64 → segment ≡ decimal n → FindsItem bytes_of c count n r → FindsPart bytes_of b segment r
list_part bytes_of segment b c count n r h small is found = λ t k.
    let l = is_list t (head_opened 4 count b c k.0 t h k.1).0 in
    let f = subst (λ u. IsFront b u k.0) l.1 k.1 in
    let o = list_opened b c k.0 count l.0 h.1 f h.2 in
    let given = list_given bytes_of segment n l.0 r (omega (arith, o.0, h.1)) small is (found l.0 k.0 o.1 o.0 (omega (arith, k.2, ap any_need l.1))) in
    subst (λ u. GivesPart bytes_of (IsPart segment u) r) (sym l.1) given

pub no_index : {A : Type 0} (bytes_of : A → List ℕ) (segment b c : List ℕ) (count : ℕ) → SplitsHead b 4 count c → ((n : ℕ) → n < 2 ^ 64 → ¬ (segment ≡ decimal n)) → FindsPart {A = A} bytes_of b segment None
no_index {A} bytes_of segment b c count h none = λ t k.
    let l = is_list t (head_opened 4 count b c k.0 t h k.1).0 in
    let f = subst (λ u. IsFront b u k.0) l.1 k.1 in
    let o = list_opened b c k.0 count l.0 h.1 f h.2 in
    subst (λ u. GivesPart {A = A} bytes_of (IsPart segment u) None) (sym l.1) (λ u p. none p.0 (omega (arith, o.0, h.1, index_below p.0 l.0 u p.2)) p.1)

pub map_part : {A : Type 0} (bytes_of : A → List ℕ) (segment b c : List ℕ) (count : ℕ) (r : Option A) → SplitsHead b 5 count c → FindsValue bytes_of c count segment r → FindsPart bytes_of b segment r
map_part bytes_of segment b c count r h found = λ t k.
    let l = is_mapping t (head_opened 5 count b c k.0 t h k.1).0 in
    let f = subst (λ u. IsFront b u k.0) l.1 k.1 in
    let o = map_opened b c k.0 count l.0 h.1 f h.2 in
    subst (λ u. GivesPart bytes_of (IsPart segment u) r) (sym l.1) (found l.0 k.0 o.1 o.0 (omega (arith, k.2, ap any_need l.1)))

no_part : (segment : List ℕ) (t u : Tree) → ¬ (major t ≡ 4) → ¬ (major t ≡ 5) → ¬ IsPart segment t u
no_part segment (list ts) u no_list no_map h = no_list refl
no_part segment (mapping es) u no_list no_map h = no_map refl
no_part segment _ u no_list no_map h = h

pub no_parts : {A : Type 0} (bytes_of : A → List ℕ) (segment b c : List ℕ) (m count : ℕ) → SplitsHead b m count c → ¬ (m ≡ 4) → ¬ (m ≡ 5) → FindsPart {A = A} bytes_of b segment None
no_parts bytes_of segment b c m count h no_list no_map = λ t k u.
    let e = (head_opened m count b c k.0 t h k.1).0 in
    no_part segment t u (λ is. no_list (sym e ∙ is)) (λ is. no_map (sym e ∙ is))

pub no_head : {A : Type 0} (bytes_of : A → List ℕ) (segment b : List ℕ) → ¬ BeginsWithHead b → FindsPart {A = A} bytes_of b segment None
no_head bytes_of segment b none = λ t k. absurd (no_front b k.0 t none k.1)

pub after_head_some : {A : Type 0} (bytes_of : A → List ℕ) (m n : ℕ) (b c : List ℕ) (r : Option A) → SplitsHead b m n c → IfSome r (λ a. EndsWith c (bytes_of a)) → IfSome r (λ a. EndsWith b (bytes_of a))
after_head_some bytes_of m n b c None h e = tt
after_head_some bytes_of m n b c (Some a) h e = after_head m n b c (bytes_of a) h e
