-- What is written of a tree is JSON, token by token.
use Rattle.std.proofs.Common.{◌≡◌, ℕ, List, [], ◌∷◌, ◌++◌, Bool, true, false, cond, map, refl, sym, ap, ◌∙◌, append_assoc, codes, flat_map, is_lt}
use Rattle.std.specs.List.{AllByRecursion}
use Rattle.std.specs.Fmt.{signed_decimal}
use Rattle.json.specs.Token.{Token}
use Rattle.json.specs.Json as json
use Rattle.json.specs.Json.{Json, Members, no_members, member}
use Rattle.json.specs.Print.{print_from, quoted, escape_byte}
use Rattle.json.specs.Tree.{json_tokens, items_tokens, members_tokens}
use Rattle.base64.specs.GeneralPurpose.{encode_of}
use Rattle.base64.specs.Engines.{standard_no_pad}
use Rattle.ipld_tree.specs.Key.{bytes_cmp}
use Rattle.ipld_tree.specs.Tree.{Tree, null, boolean, integer, text, bytes, list, mapping, link, Items, no_items, item, Entries, no_entries, entry}
use Rattle.text_cid.specs.Texts.{text_of_form}
use Rattle.text_dag_json.specs.DagJson.{joined, json_text, list_text, map_text, member_text, Member, put_member, by_bytes, boolean_text, dag_json, entry_texts}
use Rattle.text_dag_json.proofs.Plain.{IsPlain, same_text, plain_quoted}
use Rattle.text_dag_json.proofs.Slots.{KeyAndTree}

-- ---- pairs in the order of the bytes of their keys

module _ {A : Type 0} where
  abbrev pub put_pair : List ℕ × A → List (List ℕ × A) → List (List ℕ × A)
  put_pair p [] = p ∷ []
  put_pair p (q ∷ qs) = cond (is_lt (bytes_cmp p.0 q.0)) (p ∷ q ∷ qs) (q ∷ put_pair p qs)

  abbrev pub in_order : List (List ℕ × A) → List (List ℕ × A)
  in_order [] = []
  in_order (p ∷ ps) = put_pair p (in_order ps)

  all_cond : (P : List ℕ × A → Type 0) (b : Bool) (xs ys : List (List ℕ × A)) → AllByRecursion P xs → AllByRecursion P ys → AllByRecursion P (cond b xs ys)
  all_cond P true xs ys h g = h
  all_cond P false xs ys h g = g

  all_put : (P : List ℕ × A → Type 0) (p : List ℕ × A) (qs : List (List ℕ × A)) → P p → AllByRecursion P qs → AllByRecursion P (put_pair p qs)
  all_put P p [] h g = (h, tt)
  all_put P p (q ∷ qs) h g = all_cond P (is_lt (bytes_cmp p.0 q.0)) (p ∷ q ∷ qs) (q ∷ put_pair p qs) (h, g) (g.0, all_put P p qs h g.1)

  pub all_in_order : (P : List ℕ × A → Type 0) (ps : List (List ℕ × A)) → AllByRecursion P ps → AllByRecursion P (in_order ps)
  all_in_order P [] h = tt
  all_in_order P (p ∷ ps) h = all_put P p (in_order ps) h.0 (all_in_order P ps h.1)

abbrev pub on_values : {A B : Type 0} → (A → B) → List (List ℕ × A) → List (List ℕ × B)
on_values f ps = map (λ p. (p.0, f p.1)) ps

values_cond : {A B : Type 0} (f : A → B) (b : Bool) (xs ys : List (List ℕ × A)) → on_values f (cond b xs ys) ≡ cond b (on_values f xs) (on_values f ys)
values_cond f true xs ys = refl
values_cond f false xs ys = refl

values_put : {A B : Type 0} (f : A → B) (p : List ℕ × A) (qs : List (List ℕ × A)) → put_pair (p.0, f p.1) (on_values f qs) ≡ on_values f (put_pair p qs)
values_put f p [] = refl
values_put f p (q ∷ qs) = ap (λ x. cond (is_lt (bytes_cmp p.0 q.0)) ((p.0, f p.1) ∷ (q.0, f q.1) ∷ on_values f qs) ((q.0, f q.1) ∷ x)) (values_put f p qs) ∙ sym (values_cond f (is_lt (bytes_cmp p.0 q.0)) (p ∷ q ∷ qs) (q ∷ put_pair p qs))

pub values_in_order : {A B : Type 0} (f : A → B) (ps : List (List ℕ × A)) → in_order (on_values f ps) ≡ on_values f (in_order ps)
values_in_order f [] = refl
values_in_order f (p ∷ ps) = ap (put_pair (p.0, f p.1)) (values_in_order f ps) ∙ values_put f p (in_order ps)

same_put : (p : Member) (qs : List Member) → put_member p qs ≡ put_pair p qs
same_put p [] = refl
same_put p (q ∷ qs) = ap (λ x. cond (is_lt (bytes_cmp p.0 q.0)) (p ∷ q ∷ qs) (q ∷ x)) (same_put p qs)

same_order : (ps : List Member) → by_bytes ps ≡ in_order ps
same_order [] = refl
same_order (p ∷ ps) = same_put p (by_bytes ps) ∙ ap (put_pair p) (same_order ps)

-- ---- the JSON of a tree

abbrev pub pairs_in : Entries → List KeyAndTree
pairs_in no_entries = []
pairs_in (entry k t es) = (k, t) ∷ pairs_in es

abbrev pub members_from : List (List ℕ × Json) → Members
members_from [] = no_members
members_from (p ∷ ps) = member p.0 p.1 (members_from ps)

unfoldable mutual
  pub json_of : Tree → Json
  json_of null = json.null
  json_of (boolean b) = json.boolean b
  json_of (integer n) = json.number (signed_decimal n)
  json_of (text s) = json.string s
  json_of (bytes b) = json.object (member (codes "/") (json.object (member (codes "bytes") (json.string (encode_of standard_no_pad b)) no_members)) no_members)
  json_of (list ts) = json.array (item_jsons ts)
  json_of (mapping es) = json.object (members_from (in_order (entry_jsons es)))
  json_of (link c) = json.object (member (codes "/") (json.string (text_of_form c)) no_members)

  pub item_jsons : Items → json.Items
  item_jsons no_items = json.no_items
  item_jsons (item t ts) = json.item (json_of t) (item_jsons ts)

  pub entry_jsons : Entries → List (List ℕ × Json)
  entry_jsons no_entries = []
  entry_jsons (entry k t es) = (k, json_of t) ∷ entry_jsons es

jsons_of_pairs : (es : Entries) → entry_jsons es ≡ on_values json_of (pairs_in es)
unfolding json_of
jsons_of_pairs no_entries = refl
jsons_of_pairs (entry k t es) = ap (λ x. (k, json_of t) ∷ x) (jsons_of_pairs es)

texts_of_pairs : (es : Entries) → entry_texts es ≡ on_values dag_json (pairs_in es)
unfolding dag_json
texts_of_pairs no_entries = refl
texts_of_pairs (entry k t es) = ap (λ x. (k, dag_json t) ∷ x) (texts_of_pairs es)

-- a map's members, in order
abbrev pub sorted_pairs : Entries → List KeyAndTree
sorted_pairs es = in_order (pairs_in es)

pub json_of_mapping : (es : Entries) → json_of (mapping es) ≡ json.object (members_from (on_values json_of (sorted_pairs es)))
unfolding json_of
json_of_mapping es = ap (λ x. json.object (members_from x)) (ap in_order (jsons_of_pairs es) ∙ values_in_order json_of (pairs_in es))

pub text_of_mapping : (es : Entries) → dag_json (mapping es) ≡ map_text (on_values dag_json (sorted_pairs es))
unfolding dag_json
text_of_mapping es = ap map_text (same_order (entry_texts es) ∙ ap in_order (texts_of_pairs es) ∙ values_in_order dag_json (pairs_in es))

-- ---- one value

abbrev pub sep : Bool → List ℕ
sep c = cond c (44 ∷ []) []

-- the tokens of the value are printed as its text, after a comma if a value comes before it
abbrev pub Prints : Json → List ℕ → Type 0
Prints j said = (c : Bool) (rest : List Token) → print_from c (json_tokens j ++ rest) ≡ sep c ++ (said ++ print_from true rest)

pub print_null : Prints json.null (codes "null")
unfolding print_from
print_null true rest = refl
print_null false rest = refl

pub print_boolean : (b : Bool) → Prints (json.boolean b) (boolean_text b)
unfolding print_from
print_boolean true true rest = refl
print_boolean true false rest = refl
print_boolean false true rest = refl
print_boolean false false rest = refl

pub print_number : (s : List ℕ) → Prints (json.number s) s
unfolding print_from
print_number s true rest = refl
print_number s false rest = refl

pub print_string : (s : List ℕ) → Prints (json.string s) (json_text s)
unfolding print_from
print_string s true rest = ap (λ x. 44 ∷ (x ++ print_from true rest)) (sym (same_text s))
print_string s false rest = ap (λ x. x ++ print_from true rest) (sym (same_text s))

after_quote : (s tail rest : List ℕ) → quoted s ≡ 34 ∷ (s ++ 34 ∷ []) → quoted s ++ (tail ++ rest) ≡ 34 ∷ ((s ++ (34 ∷ tail)) ++ rest)
after_quote s tail rest e =
    ap (λ x. x ++ (tail ++ rest)) e ∙ ap (λ x. 34 ∷ x) (append_assoc s (34 ∷ []) (tail ++ rest) ∙ sym (append_assoc s (34 ∷ tail) rest))

pub print_link : (s : List ℕ) → IsPlain s → Prints (json.object (member (codes "/") (json.string s) no_members)) (codes "{\"/\":\"" ++ (s ++ codes "\"}"))
unfolding print_from escape_byte
print_link s h true rest = ap (λ x. codes ",{\"/\":" ++ x) (after_quote s (codes "}") (print_from true rest) (plain_quoted s h))
print_link s h false rest = ap (λ x. codes "{\"/\":" ++ x) (after_quote s (codes "}") (print_from true rest) (plain_quoted s h))

pub print_bytes : (s : List ℕ) → IsPlain s → Prints (json.object (member (codes "/") (json.object (member (codes "bytes") (json.string s) no_members)) no_members)) (codes "{\"/\":{\"bytes\":\"" ++ (s ++ codes "\"}}"))
unfolding print_from escape_byte
print_bytes s h true rest = ap (λ x. codes ",{\"/\":{\"bytes\":" ++ x) (after_quote s (codes "}}") (print_from true rest) (plain_quoted s h))
print_bytes s h false rest = ap (λ x. codes "{\"/\":{\"bytes\":" ++ x) (after_quote s (codes "}}") (print_from true rest) (plain_quoted s h))

-- ---- lists

pub record ItemsPrint (js : json.Items) (texts : List (List ℕ)) : Type 0 where
  pub more : (rest : List Token) → print_from true (items_tokens js ++ rest) ≡ flat_map (λ u. 44 ∷ u) texts ++ (93 ∷ print_from true rest)
  pub all : (rest : List Token) → print_from false (items_tokens js ++ rest) ≡ joined texts ++ (93 ∷ print_from true rest)

pub print_no_items : ItemsPrint json.no_items []
unfolding print_from
print_no_items = record { more = λ rest. refl; all = λ rest. refl }

pub print_item : (j : Json) (js : json.Items) (t : List ℕ) (ts : List (List ℕ)) → Prints j t → ItemsPrint js ts → ItemsPrint (json.item j js) (t ∷ ts)
print_item j js t ts h g = record {
  more = λ rest.
      ap (print_from true) (append_assoc (json_tokens j) (items_tokens js) rest) ∙ h true (items_tokens js ++ rest)
      ∙ ap (λ x. 44 ∷ (t ++ x)) (g.more rest) ∙ ap (λ x. 44 ∷ x) (sym (append_assoc t (flat_map (λ u. 44 ∷ u) ts) (93 ∷ print_from true rest)));
  all = λ rest.
      ap (print_from false) (append_assoc (json_tokens j) (items_tokens js) rest) ∙ h false (items_tokens js ++ rest)
      ∙ ap (λ x. t ++ x) (g.more rest) ∙ sym (append_assoc t (flat_map (λ u. 44 ∷ u) ts) (93 ∷ print_from true rest));
}

pub print_array : (js : json.Items) (ts : List (List ℕ)) → ItemsPrint js ts → Prints (json.array js) (list_text ts)
unfolding print_from
print_array js ts h true rest = ap (λ x. 44 ∷ 91 ∷ x) (h.all rest ∙ sym (append_assoc (joined ts) (93 ∷ []) (print_from true rest)))
print_array js ts h false rest = ap (λ x. 91 ∷ x) (h.all rest ∙ sym (append_assoc (joined ts) (93 ∷ []) (print_from true rest)))

-- ---- maps

pub record MembersPrint (ms : Members) (texts : List Member) : Type 0 where
  pub more : (rest : List Token) → print_from true (members_tokens ms ++ rest) ≡ flat_map (λ u. 44 ∷ u) (map member_text texts) ++ (125 ∷ print_from true rest)
  pub all : (rest : List Token) → print_from false (members_tokens ms ++ rest) ≡ joined (map member_text texts) ++ (125 ∷ print_from true rest)

pub print_no_members : MembersPrint no_members []
unfolding print_from
print_no_members = record { more = λ rest. refl; all = λ rest. refl }

module _ (k : List ℕ) (j : Json) (ms : Members) (t : List ℕ) (ts : List Member) (h : Prints j t) (g : MembersPrint ms ts) (rest : List Token) where
  others : List ℕ
  others = flat_map (λ u. 44 ∷ u) (map member_text ts)

  member_said : (quoted k ++ 58 ∷ []) ++ print_from false ((json_tokens j ++ members_tokens ms) ++ rest) ≡ (member_text (k, t) ++ flat_map (λ u. 44 ∷ u) (map member_text ts)) ++ (125 ∷ print_from true rest)
  unfolding others
  member_said =
      ap (λ x. (quoted k ++ 58 ∷ []) ++ x) (ap (print_from false) (append_assoc (json_tokens j) (members_tokens ms) rest) ∙ h false (members_tokens ms ++ rest) ∙ ap (λ x. t ++ x) (g.more rest))
      ∙ append_assoc (quoted k) (58 ∷ []) (t ++ (others ++ (125 ∷ print_from true rest)))
      ∙ ap (λ x. x ++ (58 ∷ (t ++ (others ++ (125 ∷ print_from true rest))))) (sym (same_text k))
      ∙ ap (λ x. json_text k ++ (58 ∷ x)) (sym (append_assoc t others (125 ∷ print_from true rest)))
      ∙ sym (append_assoc (json_text k) (58 ∷ (t ++ others)) (125 ∷ print_from true rest))
      ∙ ap (λ x. x ++ (125 ∷ print_from true rest)) (sym (append_assoc (json_text k) (58 ∷ t) others))

pub print_member : (k : List ℕ) (j : Json) (ms : Members) (t : List ℕ) (ts : List Member) → Prints j t → MembersPrint ms ts → MembersPrint (member k j ms) ((k, t) ∷ ts)
unfolding print_from
print_member k j ms t ts h g = record { more = λ rest. ap (λ x. 44 ∷ x) (member_said k j ms t ts h g rest); all = λ rest. member_said k j ms t ts h g rest }

pub print_object : (ms : Members) (ts : List Member) → MembersPrint ms ts → Prints (json.object ms) (map_text ts)
unfolding print_from
print_object ms ts h true rest = ap (λ x. 44 ∷ 123 ∷ x) (h.all rest ∙ sym (append_assoc (joined (map member_text ts)) (125 ∷ []) (print_from true rest)))
print_object ms ts h false rest = ap (λ x. 123 ∷ x) (h.all rest ∙ sym (append_assoc (joined (map member_text ts)) (125 ∷ []) (print_from true rest)))
