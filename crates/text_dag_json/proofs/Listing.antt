-- Texts with commas between, one by one.
use Rattle.std.proofs.Common.{◌≡◌, ◌≤◌, ◌⊎◌, inl, inr, ℕ, length, take, List, [], ◌∷◌, ◌++◌, Bool, true, false, cond, map, Global, String, Vec, string_bytes, refl, sym, ap, ◌∙◌, append_assoc, append-nil, subst, string_cmp, Less, rules, ℤ, Result, Ok, Err, codes, is_ok, if◌then◌else◌, flat_map, take_all}
use Rattle.std.specs.Fmt.{signed_decimal}
use Rattle.std.specs.List.{AllByRecursion}
use Rattle.std.specs.List.Sorted.{IsStrictlySortedBy}
use Rattle.std.specs.Map.{keys_of}
use Rattle.std.proofs.lemmas.List.Concat.{flat_map-append}
use Rattle.std.proofs.lemmas.List.{map-append}
use Rattle.ipld_tree.specs.Key.{bytes_cmp}
use Rattle.ipld_tree.specs.Cid.{CidParts, cid_bytes}
use Rattle.ipld_tree.specs.Tree.{null, boolean, integer, text, bytes, list, mapping, link, items_of, ordered_entries}
use Rattle.ipld_tree.specs.Ipld.{tree_of, trees_of, pairs_of}
use Rattle.ipld_tree.specs.declared.ipld.Ipld.{Ipld, Null as Null', Bool as Bool', Integer as Integer', String as String', Bytes as Bytes', List as List', Link as Link', the_lemmas}
use Rattle.ipld_tree.proofs.Trees.{IpldEntry}
use Rattle.text_dag_json.specs.DagJson.{joined, member_text, json_text, boolean_text, bytes_text, link_text, list_text, map_text, dag_json, item_texts, Pushes}
use Rattle.text_dag_json.proofs.Orders.{members, sorted_members}

abbrev pub is_empty : List (List ℕ) → Bool
is_empty [] = true
is_empty (t ∷ ts) = false

-- these texts are out after the start, with commas between
pub record AreOut (start out : List ℕ) (texts : List (List ℕ)) (is_first : Bool) : Type 0 where
  pub is : out ≡ start ++ joined texts
  pub first : is_first ≡ is_empty texts

joined_push : (texts : List (List ℕ)) (t : List ℕ) → joined (texts ++ t ∷ []) ≡ joined texts ++ cond (is_empty texts) t (44 ∷ t)
joined_push [] t = append-nil t
joined_push (u ∷ us) t =
    ap (λ x. u ++ x) (flat_map-append (λ v. 44 ∷ v) us (t ∷ []) ∙ ap (λ x. flat_map (λ v. 44 ∷ v) us ++ x) (append-nil (44 ∷ t)))
    ∙ sym (append_assoc u (flat_map (λ v. 44 ∷ v) us) (44 ∷ t))

-- one more text, after a comma unless it is the first
pub first_out : (start out new : List ℕ) (texts : List (List ℕ)) (b : Bool) (t : List ℕ) → AreOut start out texts b → b ≡ true → new ≡ out ++ t → AreOut start new (texts ++ t ∷ []) false
first_out start out new texts b t g h e = record {
  is =
      e ∙ ap (λ x. x ++ t) g.is ∙ append_assoc start (joined texts) t
      ∙ ap (λ x. start ++ x) (sym (joined_push texts t ∙ ap (λ c. joined texts ++ cond c t (44 ∷ t)) (sym g.first ∙ h)));
  first = not_empty texts t;
}
  where
    not_empty : (texts : List (List ℕ)) (t : List ℕ) → false ≡ is_empty (texts ++ t ∷ [])
    not_empty [] t = refl
    not_empty (u ∷ us) t = refl

pub later_out : (start out new : List ℕ) (texts : List (List ℕ)) (b : Bool) (t : List ℕ) → AreOut start out texts b → b ≡ false → new ≡ (out ++ 44 ∷ []) ++ t → AreOut start new (texts ++ t ∷ []) false
later_out start out new texts b t g h e = record {
  is =
      e ∙ append_assoc out (44 ∷ []) t ∙ ap (λ x. x ++ 44 ∷ t) g.is ∙ append_assoc start (joined texts) (44 ∷ t)
      ∙ ap (λ x. start ++ x) (sym (joined_push texts t ∙ ap (λ c. joined texts ++ cond c t (44 ∷ t)) (sym g.first ∙ h)));
  first = not_empty texts t;
}
  where
    not_empty : (texts : List (List ℕ)) (t : List ℕ) → false ≡ is_empty (texts ++ t ∷ [])
    not_empty [] t = refl
    not_empty (u ∷ us) t = refl

-- ---- items

abbrev pub texts_of : List Ipld → List (List ℕ)
texts_of xs = map (λ j. dag_json (tree_of j)) xs

pub item_texts_of : (xs : List Ipld) → item_texts (items_of (trees_of xs)) ≡ texts_of xs
unfolding dag_json
item_texts_of [] = refl
item_texts_of (x ∷ xs) = ap (λ ts. dag_json (tree_of x) ∷ ts) (item_texts_of xs)

-- ---- entries

abbrev pub texts_of_entries : List IpldEntry → List (List ℕ)
texts_of_entries es = map (λ e. member_text (string_bytes e.0, dag_json (tree_of e.1))) es

members_of : (es : List IpldEntry) → map member_text (members (pairs_of es)) ≡ texts_of_entries es
members_of [] = refl
members_of (e ∷ es) = ap (λ ts. member_text (string_bytes e.0, dag_json (tree_of e.1)) ∷ ts) (members_of es)

all_below : (k : String Global) (es : List IpldEntry) → AllByRecursion (λ y. string_cmp k y ≡ Less) (keys_of es) → AllByRecursion (λ l. bytes_cmp (string_bytes k) l ≡ Less) (keys_of (pairs_of es))
all_below k [] h = tt
all_below k (e ∷ es) h = (h.0, all_below k es h.1)

sorted_pairs : (es : List IpldEntry) → IsStrictlySortedBy string_cmp (keys_of es) → IsStrictlySortedBy bytes_cmp (keys_of (pairs_of es))
unfolding IsStrictlySortedBy
sorted_pairs [] h = tt
sorted_pairs (e ∷ es) h = (all_below e.0 es h.0, sorted_pairs es h.1)

pub map_of_entries : (es : List IpldEntry) → IsStrictlySortedBy string_cmp (keys_of es) → dag_json (mapping (ordered_entries (pairs_of es))) ≡ 123 ∷ (joined (texts_of_entries es) ++ 125 ∷ [])
unfolding dag_json
map_of_entries es h = ap (λ ms. map_text ms) (sorted_members (pairs_of es) (sorted_pairs es h)) ∙ ap (λ ts. 123 ∷ (joined ts ++ 125 ∷ [])) (members_of es)

-- ---- leaves

tree_of_Null : tree_of (Null') ≡ null
tree_of_Null = search (rules, the_lemmas)

pub json_Null : (j : Ipld) → j ≡ Null' → dag_json (tree_of j) ≡ codes "null"
unfolding dag_json
json_Null j is = ap (λ x. dag_json (tree_of x)) is ∙ ap dag_json tree_of_Null

tree_of_Bool : (b : Bool) → tree_of (Bool' b) ≡ boolean b
tree_of_Bool b = search (rules, the_lemmas)

pub json_Bool : (j : Ipld) (b : Bool) → j ≡ Bool' b → dag_json (tree_of j) ≡ boolean_text b
unfolding dag_json
json_Bool j b is = ap (λ x. dag_json (tree_of x)) is ∙ ap dag_json (tree_of_Bool b)

tree_of_Integer : (n : ℤ) → tree_of (Integer' n) ≡ integer n
tree_of_Integer n = search (rules, the_lemmas)

pub json_Integer : (j : Ipld) (n : ℤ) → j ≡ Integer' n → dag_json (tree_of j) ≡ signed_decimal n
unfolding dag_json
json_Integer j n is = ap (λ x. dag_json (tree_of x)) is ∙ ap dag_json (tree_of_Integer n)

tree_of_String : (s : String Global) → tree_of (String' s) ≡ text (string_bytes s)
tree_of_String s = search (rules, the_lemmas)

pub json_String : (j : Ipld) (s : String Global) → j ≡ String' s → dag_json (tree_of j) ≡ json_text (string_bytes s)
unfolding dag_json
json_String j s is = ap (λ x. dag_json (tree_of x)) is ∙ ap dag_json (tree_of_String s)

tree_of_Bytes : (v : Vec ℕ Global) → tree_of (Bytes' v) ≡ bytes v.items
tree_of_Bytes v = search (rules, the_lemmas)

pub json_Bytes : (j : Ipld) (v : Vec ℕ Global) → j ≡ Bytes' v → dag_json (tree_of j) ≡ bytes_text v.items
unfolding dag_json
json_Bytes j v is = ap (λ x. dag_json (tree_of x)) is ∙ ap dag_json (tree_of_Bytes v)

tree_of_List : (v : Vec Ipld Global) → tree_of (List' v) ≡ list (items_of (trees_of v.items))
tree_of_List v = search (rules, the_lemmas)

pub json_List : (j : Ipld) (v : Vec Ipld Global) → j ≡ List' v → dag_json (tree_of j) ≡ list_text (item_texts (items_of (trees_of v.items)))
unfolding dag_json
json_List j v is = ap (λ x. dag_json (tree_of x)) is ∙ ap dag_json (tree_of_List v)

tree_of_Link : (c : CidParts) → tree_of (Link' c) ≡ link (cid_bytes c)
tree_of_Link c = search (rules, the_lemmas)

pub json_Link : (j : Ipld) (c : CidParts) → j ≡ Link' c → dag_json (tree_of j) ≡ link_text (cid_bytes c)
unfolding dag_json
json_Link j c is = ap (λ x. dag_json (tree_of x)) is ∙ ap dag_json (tree_of_Link c)

-- what was appended is the text
pub pushed : {A E : Type 0} (said whole old : List ℕ) (r : Result A E) (new : List ℕ) → whole ≡ said → Pushes said old r new → Pushes whole old r new
pushed said whole old (Ok v) new e h = h ∙ ap (λ x. old ++ x) (sym e)
pushed said whole old (Err x) new e h = tt

pub extended : {A E : Type 0} (said old : List ℕ) (r : Result A E) (new : List ℕ) → new ≡ (if is_ok r then old ++ said else old) → Pushes said old r new
extended said old (Ok v) new h = h
extended said old (Err x) new h = tt

-- ---- a list and a map

pub list_out : (start out new : List ℕ) (xs : List Ipld) (i : ℕ) (b : Bool) → AreOut (start ++ 91 ∷ []) out (texts_of (take i xs)) b → length xs ≤ i → new ≡ out ++ 93 ∷ [] → new ≡ start ++ list_text (item_texts (items_of (trees_of xs)))
list_out start out new xs i b g past e =
    e ∙ ap (λ x. x ++ 93 ∷ []) (g.is ∙ append_assoc start (91 ∷ []) (joined (texts_of (take i xs))))
    ∙ append_assoc start (91 ∷ joined (texts_of (take i xs))) (93 ∷ [])
    ∙ ap (λ ts. start ++ list_text ts) (ap texts_of (take_all i xs past) ∙ sym (item_texts_of xs))

member_out : (o new k d : List ℕ) → new ≡ ((o ++ json_text k) ++ 58 ∷ []) ++ d → new ≡ o ++ member_text (k, d)
member_out o new k d e = e ∙ append_assoc (o ++ json_text k) (58 ∷ []) d ∙ append_assoc o (json_text k) (58 ∷ d)

pub entry_out : (start out o new : List ℕ) (all done left more : List IpldEntry) (b : Bool) (e : IpldEntry) → all ≡ done ++ left → left ≡ e ∷ more → AreOut start out (texts_of_entries done) b
    → ((b ≡ true) × (o ≡ out)) ⊎ ((b ≡ false) × (o ≡ out ++ 44 ∷ [])) → new ≡ ((o ++ json_text (string_bytes e.0)) ++ 58 ∷ []) ++ dag_json (tree_of e.1)
    → (done : List IpldEntry) × (all ≡ done ++ more) × AreOut start new (texts_of_entries done) false
entry_out start out o new all done left more b e is next g comma h = (
  done ++ e ∷ [],
  is ∙ ap (λ es. done ++ es) next ∙ sym (append_assoc done (e ∷ []) more),
  subst (λ ts. AreOut start new ts false) (sym (map-append (λ f. member_text (string_bytes f.0, dag_json (tree_of f.1))) done (e ∷ []))) (by comma),
)
  where
    whole : new ≡ o ++ member_text (string_bytes e.0, dag_json (tree_of e.1))
    whole = member_out o new (string_bytes e.0) (dag_json (tree_of e.1)) h

    by : ((b ≡ true) × (o ≡ out)) ⊎ ((b ≡ false) × (o ≡ out ++ 44 ∷ [])) → AreOut start new (texts_of_entries done ++ member_text (string_bytes e.0, dag_json (tree_of e.1)) ∷ []) false
    by (inl k) = first_out start out new (texts_of_entries done) b (member_text (string_bytes e.0, dag_json (tree_of e.1))) g k.0 (whole ∙ ap (λ x. x ++ member_text (string_bytes e.0, dag_json (tree_of e.1))) k.1)
    by (inr k) = later_out start out new (texts_of_entries done) b (member_text (string_bytes e.0, dag_json (tree_of e.1))) g k.0 (whole ∙ ap (λ x. x ++ member_text (string_bytes e.0, dag_json (tree_of e.1))) k.1)

pub map_out : (start out new : List ℕ) (entries all done left : List IpldEntry) (b : Bool) → all ≡ done ++ left → AreOut (start ++ 123 ∷ []) out (texts_of_entries done) b → left ≡ [] → all ≡ entries → IsStrictlySortedBy string_cmp (keys_of entries) → new ≡ out ++ 125 ∷ []
    → new ≡ start ++ dag_json (mapping (ordered_entries (pairs_of entries)))
map_out start out new entries all done left b is g none same sorted e =
    let whole : done ≡ entries = sym (append-nil done) ∙ ap (λ es. done ++ es) (sym none) ∙ sym is ∙ same in
    e ∙ ap (λ x. x ++ 125 ∷ []) (g.is ∙ append_assoc start (123 ∷ []) (joined (texts_of_entries done)))
    ∙ append_assoc start (123 ∷ joined (texts_of_entries done)) (125 ∷ [])
    ∙ ap (λ es. start ++ 123 ∷ (joined (texts_of_entries es) ++ 125 ∷ [])) whole
    ∙ ap (λ x. start ++ x) (sym (map_of_entries entries sorted))
