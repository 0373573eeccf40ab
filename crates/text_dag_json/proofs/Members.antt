-- What is read of a list and of a map, one by one.
use Rattle.std.proofs.Common.{◌≡◌, ℕ, ◌+◌, ◌<◌, ◌≤◌, length, get_or, drop, List, [], ◌∷◌, ◌++◌, Bool, true, false, Vec, Global, String, string_bytes, string_cmp, refl, sym, ap, ◌∙◌, subst, arith, append_assoc, append-nil, ◌||◌, Result, Ok, Err, IfOk, IfErr, IsErrAnd, MatchBool, is_eq}
use Rattle.std.specs.Borrow.{Bor}
use Rattle.std.specs.BTreeMap.{insert_entry}
use Rattle.std.proofs.lemmas.List.{drop_more, drop_all, map-append}
use Rattle.json.specs.Json as json
use Rattle.json.specs.Value.{value_view, items_view, members_view}
use Rattle.json.specs.declared.value.Value.{Value, Object}
use Rattle.json.proofs.Trees.{view-Object}
use Rattle.ipld_tree.specs.Key.{bytes_cmp, key_cmp}
use Rattle.ipld_tree.specs.Tree.{Tree, ordered_entries, has_key, insert}
use Rattle.ipld_tree.specs.Ipld.{tree_of, trees_of, pairs_of}
use Rattle.ipld_tree.specs.declared.ipld.Ipld.{Ipld}
use Rattle.ipld_tree.proofs.Trees.{IpldEntry, pairs_of_insert_entry}
use Rattle.text_dag_json.specs.Reading.{Read, read_map, ReadsBytes, ReadsSlashed, ReadsReserved, ReadsData, ReadsElements, ReadsMembers}
use Rattle.text_dag_json.specs.declared.error.DagJsonError.{DagJsonError}
use Rattle.text_dag_json.specs.declared.error.DagJsonError.TheVariants.{RepeatedKey, ReservedKey}
use Rattle.text_dag_json.proofs.Slots.{KeyAndTree, ordered_insert, has_key_insert}

abbrev pub JsonValue : Type 0
JsonValue = Value Global

abbrev pub JsonMember : Type 0
JsonMember = Bor (List ℕ) × JsonValue

-- ---- results

pub on_ok : {A E : Type 0} {P Q : A → Type 0} (r : Result A E) → ((v : A) → P v → Q v) → IfOk r P → IfOk r Q
on_ok (Ok v) f h = f v h
on_ok (Err e) f h = tt

pub on_err : {A E : Type 0} {P Q : E → Type 0} (r : Result A E) → ((e : E) → P e → Q e) → IfErr r P → IfErr r Q
on_err (Ok v) f h = tt
on_err (Err e) f h = f e h

pub refused_with : {A E : Type 0} (P : E → Type 0) (r : Result A E) (x : E) → IsErrAnd r (λ e. e ≡ x) → P x → IfErr r P
refused_with P (Err e) x is h = subst P (sym is) h
refused_with P (Ok v) x is h = tt

-- ---- a map that has the key `/`

pub no_bytes : (ms : List JsonMember) → 2 ≤ length ms → ReadsBytes (members_view ms) (Err ReservedKey)
no_bytes [] h = absurd (omega arith)
no_bytes (m ∷ []) h = absurd (omega arith)
no_bytes (m ∷ n ∷ ms) h = refl

pub no_reserved : (ms : List JsonMember) → 2 ≤ length ms → ReadsReserved (members_view ms) (Err ReservedKey)
no_reserved [] h = absurd (omega arith)
no_reserved (m ∷ []) h = absurd (omega arith)
no_reserved (m ∷ n ∷ ms) h = refl

pub slashed_object : (v : JsonValue) (m : Vec JsonMember Global) (xs : List JsonMember) (r : Read Tree) → v ≡ Object m → xs ≡ m.items → ReadsBytes (members_view xs) r → ReadsSlashed (value_view v) r
slashed_object v m xs r is same h = subst (λ j. ReadsSlashed j r) (sym (ap value_view is ∙ view-Object m)) (subst (λ ys. ReadsBytes (members_view ys) r) same h)

pub data_object : (v : JsonValue) (m : Vec JsonMember Global) (xs : List JsonMember) (r : Read Tree) → v ≡ Object m → xs ≡ m.items → ReadsData (json.object (members_view xs)) r → ReadsData (value_view v) r
data_object v m xs r is same h = subst (λ j. ReadsData j r) (sym (ap value_view is ∙ view-Object m)) (subst (λ ys. ReadsData (json.object (members_view ys)) r) same h)

-- ---- items

-- what is read of the values from a place on gives what is read of all, after those before it
abbrev pub ItemsFrom : List JsonValue → ℕ → List Ipld → Type 0
ItemsFrom values i items = (more : Read (List Tree)) → ReadsElements (items_view (drop i values)) more → ReadsElements (items_view values) (read_map (λ ts. trees_of items ++ ts) more)

first_value : (values : List JsonValue) (i : ℕ) (v : JsonValue) → i < length values → v ≡ get_or values i v → drop i values ≡ v ∷ drop (i + 1) values
first_value values i v within is = drop_more values i v within ∙ ap (λ x. x ∷ drop (i + 1) values) (sym is)

pub items_refused : (values : List JsonValue) (i : ℕ) (v : JsonValue) (items : List Ipld) (e : DagJsonError) → i < length values → v ≡ get_or values i v → ItemsFrom values i items → ReadsData (value_view v) (Err e) → ReadsElements (items_view values) (Err e)
items_refused values i v items e within is from h =
    from (Err e) (subst (λ xs. ReadsElements (items_view xs) (Err e)) (sym (first_value values i v within is)) (Err e, h, refl))

pub items_next : (values : List JsonValue) (i : ℕ) (v : JsonValue) (items new : List Ipld) (j : Ipld) → i < length values → v ≡ get_or values i v → ItemsFrom values i items → ReadsData (value_view v) (Ok (tree_of j)) → new ≡ items ++ j ∷ [] → ItemsFrom values (i + 1) new
items_next values i v items new j within is from h e more g =
    subst (ReadsElements (items_view values)) (longer more)
    (from (read_map (λ ts. tree_of j ∷ ts) more) (subst (λ xs. ReadsElements (items_view xs) (read_map (λ ts. tree_of j ∷ ts) more)) (sym (first_value values i v within is)) (Ok (tree_of j), h, (more, g, refl))))
  where
    longer : (more : Read (List Tree)) → read_map (λ ts. trees_of items ++ ts) (read_map (λ ts. tree_of j ∷ ts) more) ≡ read_map (λ ts. trees_of new ++ ts) more
    longer (Ok ts) = ap Ok (sym (ap (λ xs. trees_of xs ++ ts) e ∙ ap (λ us. us ++ ts) (map-append tree_of items (j ∷ [])) ∙ append_assoc (trees_of items) (tree_of j ∷ []) ts))
    longer (Err x) = refl

pub items_done : (values : List JsonValue) (i : ℕ) (items : List Ipld) → length values ≤ i → ItemsFrom values i items → ReadsElements (items_view values) (Ok (trees_of items))
items_done values i items past from =
    subst (λ ts. ReadsElements (items_view values) (Ok ts)) (append-nil (trees_of items))
    (from (Ok []) (subst (λ xs. ReadsElements (items_view xs) (Ok [])) (sym (drop_all i values past)) refl))

-- ---- entries

-- what is read from the members from an index on, after those seen, is what is read from all
abbrev pub MembersFrom : List JsonMember → ℕ → List IpldEntry → List KeyAndTree → Type 0
MembersFrom members i entries seen = ((ps : Read (List KeyAndTree)) → ReadsMembers seen (members_view (drop i members)) ps → ReadsMembers [] (members_view members) ps)
    × (ordered_entries (pairs_of entries) ≡ ordered_entries seen)
    × ((k : List ℕ) → has_key k (pairs_of entries) ≡ has_key k seen)

first_member : (members : List JsonMember) (i : ℕ) (m : JsonMember) → i < length members → m ≡ get_or members i m → drop i members ≡ m ∷ drop (i + 1) members
first_member members i m within is = drop_more members i m within ∙ ap (λ x. x ∷ drop (i + 1) members) (sym is)

in_true : (b : Bool) (P Q : Type 0) → b ≡ true → P → MatchBool b P Q
in_true b P Q e p = subst (λ x. MatchBool x P Q) (sym e) p

in_false : (b : Bool) (P Q : Type 0) → b ≡ false → Q → MatchBool b P Q
in_false b P Q e q = subst (λ x. MatchBool x P Q) (sym e) q

pub members_repeated : (members : List JsonMember) (i : ℕ) (m : JsonMember) (entries : List IpldEntry) → i < length members → m ≡ get_or members i m → (seen : List KeyAndTree) × MembersFrom members i entries seen
    → has_key m.0.now (pairs_of entries) ≡ true → ReadsMembers [] (members_view members) (Err RepeatedKey)
members_repeated members i m entries within is from h =
    from.1.0 (Err RepeatedKey) (subst (λ xs. ReadsMembers from.0 (members_view xs) (Err RepeatedKey)) (sym (first_member members i m within is)) (in_true (has_key m.0.now from.0) _ _ (sym (from.1.2 m.0.now) ∙ h) refl))

pub members_refused : (members : List JsonMember) (i : ℕ) (m : JsonMember) (entries : List IpldEntry) (e : DagJsonError) → i < length members → m ≡ get_or members i m → (seen : List KeyAndTree) × MembersFrom members i entries seen
    → has_key m.0.now (pairs_of entries) ≡ false → ReadsData (value_view m.1) (Err e) → ReadsMembers [] (members_view members) (Err e)
members_refused members i m entries e within is from h g =
    from.1.0 (Err e) (subst (λ xs. ReadsMembers from.0 (members_view xs) (Err e)) (sym (first_member members i m within is)) (in_false (has_key m.0.now from.0) _ _ (sym (from.1.2 m.0.now) ∙ h) (Err e, g, refl)))

pub members_next : (members : List JsonMember) (i : ℕ) (m : JsonMember) (entries new : List IpldEntry) (k : String Global) (j : Ipld) → i < length members → m ≡ get_or members i m → (seen : List KeyAndTree) × MembersFrom members i entries seen
    → has_key m.0.now (pairs_of entries) ≡ false → ReadsData (value_view m.1) (Ok (tree_of j)) → string_bytes k ≡ m.0.now → new ≡ insert_entry string_cmp entries k j
    → (seen : List KeyAndTree) × MembersFrom members (i + 1) new seen
members_next members i m entries new k j within is from h g key put = ((m.0.now, tree_of j) ∷ from.0, (more, same, seen))
  where
    pairs : pairs_of new ≡ insert_entry bytes_cmp (pairs_of entries) m.0.now (tree_of j)
    pairs = ap pairs_of put ∙ pairs_of_insert_entry entries k j ∙ ap (λ x. insert_entry bytes_cmp (pairs_of entries) x (tree_of j)) key

    more : (ps : Read (List KeyAndTree)) → ReadsMembers ((m.0.now, tree_of j) ∷ from.0) (members_view (drop (i + 1) members)) ps → ReadsMembers [] (members_view members) ps
    more ps rest = from.1.0 ps (subst (λ xs. ReadsMembers from.0 (members_view xs) ps) (sym (first_member members i m within is)) (in_false (has_key m.0.now from.0) _ _ (sym (from.1.2 m.0.now) ∙ h) (Ok (tree_of j), g, rest)))

    same : ordered_entries (pairs_of new) ≡ ordered_entries ((m.0.now, tree_of j) ∷ from.0)
    same = ap ordered_entries pairs ∙ ordered_insert (pairs_of entries) m.0.now (tree_of j) h ∙ ap (insert m.0.now (tree_of j)) from.1.1

    seen : (q : List ℕ) → has_key q (pairs_of new) ≡ has_key q ((m.0.now, tree_of j) ∷ from.0)
    seen q = ap (has_key q) pairs ∙ has_key_insert (pairs_of entries) m.0.now (tree_of j) q h ∙ ap (λ b. is_eq (key_cmp q m.0.now) || b) (from.1.2 q)
