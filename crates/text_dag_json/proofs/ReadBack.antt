-- What is written of a tree is read back as that tree.
use Rattle.std.proofs.Common.{◌≡◌, inl, inr, ℕ, ℤ, zero, suc, ◌+◌, ◌*◌, ◌≤◌, max, List, [], ◌∷◌, ◌++◌, Bool, true, false, cond, ◌||◌, map, refl, sym, ap, ◌∙◌, subst, arith, append-nil, IsUtf8, Ordering, Equal, Less, Greater, Ok, Err, codes, MatchResult, MatchBool, flat_map, is_lt, is_eq, bytes_eq, le-leb}
use Rattle.std.specs.List.{AllByRecursion}
use Rattle.std.proofs.lemmas.Bool.{or_parts, or_from}
use Rattle.std.proofs.lemmas.Str.{IsUtf8-append, IsUtf8-nil}
use Rattle.json.specs.Lex.{tokens}
use Rattle.json.specs.Json as json
use Rattle.json.specs.Json.{Members, value}
use Rattle.json.specs.Print.{print, print_from}
use Rattle.json.specs.Tree.{json_tokens, depth, items_depth, members_depth, HasNumbers, ItemsHaveNumbers, MembersHaveNumbers}
use Rattle.json.proofs.Printed.Tokens.{tokens-print}
use Rattle.json.proofs.Printed.Trees.{value-json_tokens, ArePrintable-json_tokens}
use Rattle.json.proofs.Printed.Utf8.{IsUtf8-are_ascii, IsUtf8-quoted}
use Rattle.base64.specs.GeneralPurpose.{encode_of, IsBytes}
use Rattle.base64.specs.Engines.{standard_no_pad}
use Rattle.base64.proofs.EngineFacts.{decode_of-encode_of}
use Rattle.ipld_tree.specs.Cid.{CidParts, IsCid, AreCidParts, cid_bytes}
use Rattle.ipld_tree.specs.Key.{key_cmp, bytes_cmp}
use Rattle.ipld_tree.specs.Spelling.{IsInRange, IsSpellable, AreSpellableItems, AreSpellableEntries}
use Rattle.ipld_tree.specs.Tree.{Tree, null, boolean, integer, text, bytes, list, mapping, link, Items, no_items, item, Entries, no_entries, entry, IsTree, AreItems, AreEntries, Precedes, items_of, insert, ordered_entries, has_key, any_need, items_need, entries_need}
use Rattle.ipld_tree.proofs.KeyOrder.{same_key}
use Rattle.ipld_tree.proofs.Ordered.{key_cmp_total, key_cmp_same, less_from_before}
use Rattle.text_cid.specs.Alphabets.{AreBytes}
use Rattle.text_cid.specs.Texts.{text_of_form, IsTextOf}
use Rattle.text_cid.proofs.Texting.{written_0, written_1, text_0, text_1}
use Rattle.text_dag_json.specs.DagJson.{joined, json_text, member_text, dag_json, item_texts, has_reserved_key, items_reserved, entries_reserved}
use Rattle.text_dag_json.specs.Reading.{has_slash, decoded_data, document_of, alone, most_levels, within_steps, ReadsData, ReadsElements, ReadsMembers, ReadsWhole, ReadsTokens, ReadsJson, HasBytes, ItemsHaveBytes, EntriesHaveBytes, IsTellable}
use Rattle.text_dag_json.specs.declared.error.DagJsonError.TheVariants.{TooDeep}
use Rattle.text_dag_json.proofs.Integers.{number_read, number_written, number_utf8}
use Rattle.text_dag_json.proofs.Plain.{same_text, plain_utf8, plain_cid, plain_base64}
use Rattle.text_dag_json.proofs.Slots.{KeyAndTree, insert_twice}
use Rattle.text_dag_json.proofs.Printing.{put_pair, in_order, all_in_order, on_values, pairs_in, members_from, json_of, item_jsons, json_of_mapping, text_of_mapping, sorted_pairs, Prints, print_null, print_boolean, print_number, print_string, print_link, print_bytes, ItemsPrint, print_no_items, print_item, print_array, MembersPrint, print_no_members, print_member, print_object}

-- what is known of a tree and its JSON
record Good (t : Tree) : Type 0 where
  pub prints : Prints (json_of t) (dag_json t)
  pub utf8 : IsUtf8 (dag_json t)
  pub numbers : HasNumbers (json_of t)
  pub deep : 2 * depth (json_of t) ≤ any_need t + 3
  pub reads : ReadsData (json_of t) (Ok t)

-- ---- texts

utf8_quoted : (s : List ℕ) → IsUtf8 s → IsUtf8 (json_text s)
utf8_quoted s h = subst IsUtf8 (sym (same_text s)) (IsUtf8-quoted s h)

utf8_more : (ts : List (List ℕ)) → AllByRecursion IsUtf8 ts → IsUtf8 (flat_map (λ u. 44 ∷ u) ts)
utf8_more [] h = IsUtf8-nil
utf8_more (t ∷ ts) h = IsUtf8-append (44 ∷ t) (flat_map (λ u. 44 ∷ u) ts) (IsUtf8-append (44 ∷ []) t (IsUtf8-are_ascii (44 ∷ []) refl) h.0) (utf8_more ts h.1)

utf8_joined : (ts : List (List ℕ)) → AllByRecursion IsUtf8 ts → IsUtf8 (joined ts)
utf8_joined [] h = IsUtf8-nil
utf8_joined (t ∷ ts) h = IsUtf8-append t (flat_map (λ u. 44 ∷ u) ts) h.0 (utf8_more ts h.1)

utf8_between : (first last : ℕ) (s : List ℕ) → IsUtf8 (first ∷ []) → IsUtf8 s → IsUtf8 (last ∷ []) → IsUtf8 (first ∷ (s ++ last ∷ []))
utf8_between first last s f h l = IsUtf8-append (first ∷ []) (s ++ last ∷ []) f (IsUtf8-append s (last ∷ []) h l)

-- ---- leaves

good_null : Good null
unfolding json_of dag_json
good_null = record { prints = print_null; utf8 = IsUtf8-are_ascii (codes "null") refl; numbers = tt; deep = omega arith; reads = refl }

good_boolean : (b : Bool) → Good (boolean b)
unfolding json_of dag_json
good_boolean true = record { prints = print_boolean true; utf8 = IsUtf8-are_ascii (codes "true") refl; numbers = tt; deep = omega arith; reads = refl }
good_boolean false = record { prints = print_boolean false; utf8 = IsUtf8-are_ascii (codes "false") refl; numbers = tt; deep = omega arith; reads = refl }

good_integer : (n : ℤ) → IsInRange n → Good (integer n)
unfolding json_of dag_json
good_integer n h = record { prints = print_number _; utf8 = number_utf8 n h; numbers = number_written n h; deep = omega arith; reads = sym (number_read n h) }

good_text : (s : List ℕ) → IsUtf8 s → Good (text s)
unfolding json_of dag_json
good_text s h = record { prints = print_string s; utf8 = utf8_quoted s h; numbers = tt; deep = omega arith; reads = refl }

each_byte : (b : List ℕ) → AreBytes b → IsBytes b
each_byte [] h i = omega arith
each_byte (x ∷ b) h zero = h.0
each_byte (x ∷ b) h (suc i) = each_byte b h.1 i

good_bytes : (b : List ℕ) → AreBytes b → Good (bytes b)
unfolding json_of dag_json
good_bytes b h =
    let s = encode_of standard_no_pad b in
    let plain = plain_base64 b h in
    record {
      prints = print_bytes s plain;
      utf8 = IsUtf8-append (codes "{\"/\":{\"bytes\":\"") (s ++ codes "\"}}") (IsUtf8-are_ascii (codes "{\"/\":{\"bytes\":\"") refl) (IsUtf8-append s (codes "\"}}") (plain_utf8 s plain) (IsUtf8-are_ascii (codes "\"}}") refl));
      numbers = ((tt, tt), tt);
      deep = omega arith;
      reads = ap decoded_data (sym (decode_of-encode_of standard_no_pad b refl (each_byte b h)));
    }

cid_told : (form : List ℕ) (c : CidParts) → AreCidParts c → form ≡ cid_bytes c → AreBytes form → IsTextOf (text_of_form form) c
cid_told form c (inl v) is b = written_0 c (text_of_form form) (inl v) (subst AreBytes is b) v.0 (ap text_of_form is ∙ text_0 c v.0)
cid_told form c (inr v) is b =
    let other : c.version ≡ 0 → ⊥ = λ e. omega (arith, e, v.0) in
    written_1 c (text_of_form form) (inr v) (subst AreBytes is b) other (ap text_of_form is ∙ text_1 c (inr v) other)

good_link : (form : List ℕ) → IsCid form → AreBytes form → Good (link form)
unfolding json_of dag_json
good_link form h b =
    let s = text_of_form form in
    record {
      prints = print_link s (plain_cid form);
      utf8 = IsUtf8-append (codes "{\"/\":\"") (s ++ codes "\"}") (IsUtf8-are_ascii (codes "{\"/\":\"") refl) (IsUtf8-append s (codes "\"}") (plain_utf8 s (plain_cid form)) (IsUtf8-are_ascii (codes "\"}") refl));
      numbers = (tt, tt);
      deep = omega arith;
      reads = (h.0, cid_told form h.0 h.1 h.2 b, ap link h.2);
    }

-- ---- lists

abbrev trees_in : Items → List Tree
trees_in no_items = []
trees_in (item t ts) = t ∷ trees_in ts

items_again : (ts : Items) → items_of (trees_in ts) ≡ ts
items_again no_items = refl
items_again (item t ts) = ap (item t) (items_again ts)

record GoodItems (ts : Items) : Type 0 where
  pub prints : ItemsPrint (item_jsons ts) (item_texts ts)
  pub utf8 : AllByRecursion IsUtf8 (item_texts ts)
  pub numbers : ItemsHaveNumbers (item_jsons ts)
  pub deep : 2 * items_depth (item_jsons ts) ≤ items_need ts + 3
  pub reads : ReadsElements (item_jsons ts) (Ok (trees_in ts))

good_no_items : GoodItems no_items
unfolding json_of dag_json
good_no_items = record { prints = print_no_items; utf8 = tt; numbers = tt; deep = omega arith; reads = refl }

good_item : (t : Tree) (ts : Items) → Good t → GoodItems ts → GoodItems (item t ts)
unfolding json_of dag_json
good_item t ts h g = record {
  prints = print_item (json_of t) (item_jsons ts) (dag_json t) (item_texts ts) h.prints g.prints;
  utf8 = (h.utf8, g.utf8);
  numbers = (h.numbers, g.numbers);
  deep = omega (arith, h.deep, g.deep);
  reads = (Ok t, h.reads, (Ok (trees_in ts), g.reads, refl));
}

good_list : (ts : Items) → GoodItems ts → Good (list ts)
unfolding json_of dag_json
good_list ts g = record {
  prints = print_array (item_jsons ts) (item_texts ts) g.prints;
  utf8 = utf8_between 91 93 (joined (item_texts ts)) (IsUtf8-are_ascii (91 ∷ []) refl) (utf8_joined (item_texts ts) g.utf8) (IsUtf8-are_ascii (93 ∷ []) refl);
  numbers = g.numbers;
  deep = omega (arith, g.deep);
  reads = (Ok (trees_in ts), g.reads, ap (λ x. Ok (list x)) (sym (items_again ts)));
}

-- ---- pairs whose keys differ

abbrev Differs : KeyAndTree → KeyAndTree → Type 0
Differs p q = key_cmp p.0 q.0 ≡ Equal → ⊥

abbrev Apart : List KeyAndTree → Type 0
Apart [] = Unit {0}
Apart (p ∷ ps) = AllByRecursion (Differs p) ps × Apart ps

turned : (p q : KeyAndTree) → Differs p q → Differs q p
turned p q h e = h (ap (key_cmp p.0) (same_key q.0 p.0 e) ∙ key_cmp_same p.0)

apart_cond : (b : Bool) (xs ys : List KeyAndTree) → Apart xs → Apart ys → Apart (cond b xs ys)
apart_cond true xs ys h g = h
apart_cond false xs ys h g = g

all_put_pair : (P : KeyAndTree → Type 0) (p : KeyAndTree) (qs : List KeyAndTree) → P p → AllByRecursion P qs → AllByRecursion P (put_pair p qs)
all_put_pair P p [] h g = (h, tt)
all_put_pair P p (q ∷ qs) h g = by (is_lt (bytes_cmp p.0 q.0)) (all_put_pair P p qs h g.1)
  where
    by : (b : Bool) → AllByRecursion P (put_pair p qs) → AllByRecursion P (cond b (p ∷ q ∷ qs) (q ∷ put_pair p qs))
    by true more = (h, g)
    by false more = (g.0, more)

apart_put : (p : KeyAndTree) (qs : List KeyAndTree) → AllByRecursion (Differs p) qs → Apart qs → Apart (put_pair p qs)
apart_put p [] h g = (tt, tt)
apart_put p (q ∷ qs) h g = apart_cond (is_lt (bytes_cmp p.0 q.0)) (p ∷ q ∷ qs) (q ∷ put_pair p qs) (h, g) (all_put_pair (Differs q) p qs (turned p q h.0) g.0, apart_put p qs h.1 g.1)

ordered_put : (p : KeyAndTree) (qs : List KeyAndTree) → AllByRecursion (Differs p) qs → ordered_entries (put_pair p qs) ≡ insert p.0 p.1 (ordered_entries qs)
ordered_put p [] h = refl
ordered_put p (q ∷ qs) h = by (is_lt (bytes_cmp p.0 q.0)) (ordered_put p qs h.1)
  where
    by : (b : Bool) → ordered_entries (put_pair p qs) ≡ insert p.0 p.1 (ordered_entries qs) → ordered_entries (cond b (p ∷ q ∷ qs) (q ∷ put_pair p qs)) ≡ insert p.0 p.1 (insert q.0 q.1 (ordered_entries qs))
    by true more = refl
    by false more = ap (insert q.0 q.1) more ∙ sym (insert_twice p.0 q.0 p.1 q.1 (ordered_entries qs) h.0)

apart_order : (ps : List KeyAndTree) → Apart ps → Apart (in_order ps)
apart_order [] h = tt
apart_order (p ∷ ps) h = apart_put p (in_order ps) (all_in_order (Differs p) ps h.0) (apart_order ps h.1)

ordered_order : (ps : List KeyAndTree) → Apart ps → ordered_entries (in_order ps) ≡ ordered_entries ps
ordered_order [] h = refl
ordered_order (p ∷ ps) h = ordered_put p (in_order ps) (all_in_order (Differs p) ps h.0) ∙ ap (insert p.0 p.1) (ordered_order ps h.1)

-- those that were seen, when all are
abbrev seen_of : List KeyAndTree → List KeyAndTree → List KeyAndTree
seen_of [] seen = seen
seen_of (q ∷ qs) seen = seen_of qs ((q.0, q.1) ∷ seen)

abbrev inserts : List KeyAndTree → Entries → Entries
inserts [] es = es
inserts (q ∷ qs) es = inserts qs (insert q.0 q.1 es)

ordered_seen : (qs seen : List KeyAndTree) → ordered_entries (seen_of qs seen) ≡ inserts qs (ordered_entries seen)
ordered_seen [] seen = refl
ordered_seen (q ∷ qs) seen = ordered_seen qs ((q.0, q.1) ∷ seen)

inserts_later : (q : KeyAndTree) (qs : List KeyAndTree) (es : Entries) → AllByRecursion (Differs q) qs → inserts qs (insert q.0 q.1 es) ≡ insert q.0 q.1 (inserts qs es)
inserts_later q [] es h = refl
inserts_later q (p ∷ qs) es h = ap (inserts qs) (insert_twice p.0 q.0 p.1 q.1 es (turned q p h.0)) ∙ inserts_later q qs (insert p.0 p.1 es) h.1

inserts_ordered : (qs : List KeyAndTree) → Apart qs → inserts qs no_entries ≡ ordered_entries qs
inserts_ordered [] h = refl
inserts_ordered (q ∷ qs) h = inserts_later q qs no_entries h.0 ∙ ap (insert q.0 q.1) (inserts_ordered qs h.1)

-- ---- entries of a map

abbrev Below : List ℕ → List KeyAndTree → Type 0
Below k ps = AllByRecursion (λ p. key_cmp k p.0 ≡ Less) ps

still_below : (k l : List ℕ) (ps : List KeyAndTree) → key_cmp k l ≡ Less → Below l ps → Below k ps
still_below k l [] h g = tt
still_below k l (p ∷ ps) h g = (key_cmp_total.trans k l p.0 h g.0, still_below k l ps h g.1)

below_all : (k : List ℕ) (es : Entries) → Precedes k es → AreEntries es → Below k (pairs_in es)
below_all k no_entries h g = tt
below_all k (entry l u es) h g = let less = less_from_before k l h in (less, still_below k l (pairs_in es) less (below_all l es g.2 g.3))

below_differs : (k : List ℕ) (t : Tree) (ps : List KeyAndTree) → Below k ps → AllByRecursion (Differs (k, t)) ps
below_differs k t [] h = tt
below_differs k t (p ∷ ps) h = ((λ e. (let clash : Less ≡ Equal = sym h.0 ∙ e in cc clash)), below_differs k t ps h.1)

apart_entries : (es : Entries) → AreEntries es → Apart (pairs_in es)
apart_entries no_entries h = tt
apart_entries (entry k t es) h = (below_differs k t (pairs_in es) (below_all k es h.2 h.3), apart_entries es h.3)

in_front : (k : List ℕ) (t : Tree) (es : Entries) → Precedes k es → insert k t es ≡ entry k t es
in_front k t no_entries h = refl
in_front k t (entry l u es) h = ap (λ b. cond b (entry k t (entry l u es)) (entry l u (insert k t es))) h

ordered_again : (es : Entries) → AreEntries es → ordered_entries (pairs_in es) ≡ es
ordered_again no_entries h = refl
ordered_again (entry k t es) h = ap (insert k t) (ordered_again es h.3) ∙ in_front k t es h.2

read_order : (es : Entries) → AreEntries es → ordered_entries (seen_of (sorted_pairs es) []) ≡ es
read_order es h =
    let apart = apart_entries es h in
    ordered_seen (sorted_pairs es) [] ∙ inserts_ordered (sorted_pairs es) (apart_order (pairs_in es) apart) ∙ ordered_order (pairs_in es) apart ∙ ordered_again es h

-- ---- maps

abbrev GoodPair : KeyAndTree → Type 0
GoodPair q = IsUtf8 q.0 × (bytes_eq q.0 (codes "/") ≡ false) × Good q.1

abbrev jsons : List KeyAndTree → Members
jsons qs = members_from (on_values json_of qs)

pairs_print : (qs : List KeyAndTree) → AllByRecursion GoodPair qs → MembersPrint (jsons qs) (on_values dag_json qs)
pairs_print [] h = print_no_members
pairs_print (q ∷ qs) h = print_member q.0 (json_of q.1) (jsons qs) (dag_json q.1) (on_values dag_json qs) h.0.2.prints (pairs_print qs h.1)

pairs_utf8 : (qs : List KeyAndTree) → AllByRecursion GoodPair qs → AllByRecursion IsUtf8 (map member_text (on_values dag_json qs))
pairs_utf8 [] h = tt
pairs_utf8 (q ∷ qs) h = (IsUtf8-append (json_text q.0) (58 ∷ dag_json q.1) (utf8_quoted q.0 h.0.0) (IsUtf8-append (58 ∷ []) (dag_json q.1) (IsUtf8-are_ascii (58 ∷ []) refl) h.0.2.utf8), pairs_utf8 qs h.1)

pairs_numbers : (qs : List KeyAndTree) → AllByRecursion GoodPair qs → MembersHaveNumbers (jsons qs)
pairs_numbers [] h = tt
pairs_numbers (q ∷ qs) h = (h.0.2.numbers, pairs_numbers qs h.1)

abbrev pairs_need : List KeyAndTree → ℕ
pairs_need [] = 0
pairs_need (q ∷ qs) = max (any_need q.1) (pairs_need qs)

need_put : (p : KeyAndTree) (qs : List KeyAndTree) → pairs_need (put_pair p qs) ≡ max (any_need p.1) (pairs_need qs)
need_put p [] = refl
need_put p (q ∷ qs) = by (is_lt (bytes_cmp p.0 q.0)) (need_put p qs)
  where
    by : (b : Bool) → pairs_need (put_pair p qs) ≡ max (any_need p.1) (pairs_need qs) → pairs_need (cond b (p ∷ q ∷ qs) (q ∷ put_pair p qs)) ≡ max (any_need p.1) (max (any_need q.1) (pairs_need qs))
    by true more = refl
    by false more = omega (arith, more)

need_order : (ps : List KeyAndTree) → pairs_need (in_order ps) ≡ pairs_need ps
need_order [] = refl
need_order (p ∷ ps) = need_put p (in_order ps) ∙ ap (max (any_need p.1)) (need_order ps)

need_pairs : (es : Entries) → pairs_need (pairs_in es) ≡ entries_need es
need_pairs no_entries = refl
need_pairs (entry k t es) = ap (max (any_need t)) (need_pairs es)

pairs_deep : (qs : List KeyAndTree) → AllByRecursion GoodPair qs → 2 * members_depth (jsons qs) ≤ pairs_need qs + 3
pairs_deep [] h = omega arith
pairs_deep (q ∷ qs) h = omega (arith, h.0.2.deep, pairs_deep qs h.1)

no_slash : (qs : List KeyAndTree) → AllByRecursion GoodPair qs → has_slash (jsons qs) ≡ false
no_slash [] h = refl
no_slash (q ∷ qs) h = or_from _ _ h.0.1 (no_slash qs h.1)

in_false : (b : Bool) (P Q : Type 0) → b ≡ false → Q → MatchBool b P Q
in_false b P Q e q = subst (λ x. MatchBool x P Q) (sym e) q

other_key : (p q : KeyAndTree) → Differs q p → is_eq (key_cmp p.0 q.0) ≡ false
other_key p q h = by (key_cmp p.0 q.0) refl
  where
    by : (o : Ordering) → key_cmp p.0 q.0 ≡ o → is_eq o ≡ false
    by Less e = refl
    by Equal e = absurd (turned q p h e)
    by Greater e = refl

still_new : (q : KeyAndTree) (seen qs : List KeyAndTree) → AllByRecursion (Differs q) qs → AllByRecursion (λ p. has_key p.0 seen ≡ false) qs → AllByRecursion (λ p. has_key p.0 ((q.0, q.1) ∷ seen) ≡ false) qs
still_new q seen [] h g = tt
still_new q seen (p ∷ qs) h g = (or_from _ _ (other_key p q h.0) g.0, still_new q seen qs h.1 g.1)

pairs_read : (qs seen : List KeyAndTree) → AllByRecursion GoodPair qs → Apart qs → AllByRecursion (λ p. has_key p.0 seen ≡ false) qs → ReadsMembers seen (jsons qs) (Ok (seen_of qs seen))
pairs_read [] seen h a new = refl
pairs_read (q ∷ qs) seen h a new = in_false (has_key q.0 seen) _ _ new.0 (Ok q.1, h.0.2.reads, pairs_read qs ((q.0, q.1) ∷ seen) h.1 a.1 (still_new q seen qs a.0 new.1))

none_seen : (qs : List KeyAndTree) → AllByRecursion (λ p. has_key p.0 [] ≡ false) qs
none_seen [] = tt
none_seen (q ∷ qs) = (refl, none_seen qs)

good_mapping : (es : Entries) → AreEntries es → AllByRecursion GoodPair (pairs_in es) → Good (mapping es)
good_mapping es h g =
    let qs = sorted_pairs es in
    let all = all_in_order GoodPair (pairs_in es) g in
    let json_is : json_of (mapping es) ≡ json.object (jsons qs) = json_of_mapping es in
    let deep = pairs_deep qs all in
    let need = need_order (pairs_in es) ∙ need_pairs es in
    let whole = ap depth json_is in
    record {
      prints = subst (λ j. Prints j (dag_json (mapping es))) (sym json_is) (subst (Prints (json.object (jsons qs))) (sym (text_of_mapping es)) (print_object (jsons qs) (on_values dag_json qs) (pairs_print qs all)));
      utf8 = subst IsUtf8 (sym (text_of_mapping es)) (utf8_between 123 125 (joined (map member_text (on_values dag_json qs))) (IsUtf8-are_ascii (123 ∷ []) refl) (utf8_joined (map member_text (on_values dag_json qs)) (pairs_utf8 qs all)) (IsUtf8-are_ascii (125 ∷ []) refl));
      numbers = subst HasNumbers (sym json_is) (pairs_numbers qs all);
      deep = omega (arith, deep, need, whole);
      reads = subst (λ j. ReadsData j (Ok (mapping es))) (sym json_is) (in_false (has_slash (jsons qs)) _ _ (no_slash qs all)
          (Ok (seen_of qs []), pairs_read qs [] all (apart_order (pairs_in es) (apart_entries es h)) (none_seen qs), ap (λ x. Ok (mapping x)) (sym (read_order es h))));
    }

-- ---- trees

mutual
  good : (t : Tree) → IsTree t → IsSpellable t → HasBytes t → has_reserved_key t ≡ false → Good t
  good null w s b r = good_null
  good (boolean x) w s b r = good_boolean x
  good (integer n) w s b r = good_integer n s
  good (text x) w s b r = good_text x w
  good (bytes x) w s b r = good_bytes x b
  good (list ts) w s b r = good_list ts (good_items ts w s.1 b r)
  good (mapping es) w s b r = good_mapping es w (good_pairs es w s.1 b r)
  good (link form) w s b r = good_link form w b

  good_items : (ts : Items) → AreItems ts → AreSpellableItems ts → ItemsHaveBytes ts → items_reserved ts ≡ false → GoodItems ts
  good_items no_items w s b r = good_no_items
  good_items (item t ts) w s b r = let k = or_parts (has_reserved_key t) (items_reserved ts) r in good_item t ts (good t w.0 s.0 b.0 k.0) (good_items ts w.1 s.1 b.1 k.1)

  good_pairs : (es : Entries) → AreEntries es → AreSpellableEntries es → EntriesHaveBytes es → entries_reserved es ≡ false → AllByRecursion GoodPair (pairs_in es)
  good_pairs no_entries w s b r = tt
  good_pairs (entry k t es) w s b r =
      let first = or_parts (bytes_eq k (codes "/")) (has_reserved_key t || entries_reserved es) r in
      let second = or_parts (has_reserved_key t) (entries_reserved es) first.1 in
      ((w.0, first.0, good t w.1 s.1 b.0 second.0), good_pairs es w.3 s.2 b.1 second.1)

-- ---- the text

printed : (t : Tree) → Good t → dag_json t ≡ print (json_tokens (json_of t))
unfolding print_from
printed t g = sym (ap (print_from false) (sym (append-nil (json_tokens (json_of t)))) ∙ g.prints false [] ∙ append-nil (dag_json t))

tokens_written : (t : Tree) → Good t → tokens (dag_json t) ≡ json_tokens (json_of t)
tokens_written t g = ap tokens (printed t g) ∙ tokens-print (json_tokens (json_of t)) (ArePrintable-json_tokens (json_of t) g.numbers)

document_written : (t : Tree) → Good t → any_need t ≤ 256 → document_of (json_tokens (json_of t)) ≡ Ok (json_of t)
document_written t g within =
    ap (alone (json_tokens (json_of t))) (ap (value most_levels) (sym (append-nil (json_tokens (json_of t)))) ∙ value-json_tokens (json_of t) most_levels [] (omega (arith, g.deep, within)))

pub text_read : (t : Tree) → IsTellable t → ReadsJson (dag_json t) (Ok t)
text_read t h =
    let g = good t h.well_formed h.spellable h.are_bytes h.unreserved in
    let steps : Ok t ≡ within_steps (Ok t) = sym (ap (λ b. cond b (Ok t) (Err TooDeep)) (le-leb (any_need t) 256 h.within)) in
    inr (g.utf8, subst (λ ts. ReadsTokens ts (Ok t)) (sym (tokens_written t g)) (subst (λ r. MatchResult r (λ j. ReadsWhole j (Ok t)) (λ e. Ok t ≡ Err e)) (sym (document_written t g h.within)) (Ok t, g.reads, steps)))
