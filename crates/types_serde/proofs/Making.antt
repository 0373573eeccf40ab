-- Which events make a tree: of leaves, of lists, of maps and of links.
use Rattle.std.proofs.Common.{◌≡◌, ℕ, ℤ, List, [], ◌∷◌, ◌++◌, map, Option, Some, None, Bool, IsTrue, refl, sym, ap, ◌∙◌, subst, append_assoc, append-nil, codes, rules, pos, string_bytes, string_cmp, String, Global, Vec, BTreeMap, option_map, option_and_then, suc, IsSomeAnd, Result, OnOk}
use Rattle.std.specs.List.Sorted.{IsStrictlySortedBy}
use Rattle.std.specs.Map.{keys_of}
use Rattle.std.proofs.lemmas.Result.{on_ok_weaker}
use Rattle.serde.specs.Event as event
use Rattle.serde.specs.Event.{Event, Log, Logs, seq_begins, seq_ends, map_begins, map_ends, field_key, key_begins, key_ends, flattens, octets, WritesEach, WritesSeq, WritesEntry, WritesMap}
use Rattle.serde.specs.declared.name.Case.TheVariants.{Kebab}
use Rattle.ipld_tree.specs.Tree.{Tree, null, boolean, integer, text, bytes, list, mapping, link, items_of, ordered_entries, entries_tree}
use Rattle.ipld_tree.specs.Cid.{CidParts, cid_bytes}
use Rattle.ipld_tree.specs.Ipld.{tree_of, pairs_of}
use Rattle.ipld_tree.specs.declared.ipld.Ipld.{Ipld, Null as Null', Bool as Bool', Integer as Integer', String as String', Bytes as Bytes', Map as Map', Link as Link', the_lemmas}
use Rattle.ipld_tree.proofs.Trees.{tree_of_String, tree_of_Map}
use Rattle.dagcbor_write.proofs.IpldTrees.{map_kind}
use Rattle.ipld_tree.specs.Spelling.{IsSpelling}
use Rattle.dagcbor_write.specs.Trees.{Pair}
use Rattle.types_serde.specs.Building.{Level, in_list, in_map, in_link, rests, for_value, for_map, State, state, start, put, put_unit, put_bytes, on_top, begin_map, close, step, steps, finished, events_tree}
use Rattle.types_serde.specs.Links.{WritesLink, link_events}
use Rattle.types_serde.specs.Making.{takes_items, MakesTree, GrowsBy, WritesEvents, fields_of, WritesEntries, TreesAreWritten, EntriesAreAdded, LeavesAreWritten, ListsAreWritten}

-- ---- logs

pub grows_none : (log new : Log) → new ≡ log → GrowsBy [] log new
grows_none None new h = tt
grows_none (Some es) new h = h ∙ ap Some (sym (append-nil es))

pub grows_then : (es fs : List Event) (a b c : Log) → GrowsBy es a b → GrowsBy fs b c → GrowsBy (es ++ fs) a c
grows_then es fs None b c h k = tt
grows_then es fs (Some x) b c h k =
    let l : c ≡ Some ((x ++ es) ++ fs) = subst (λ m. GrowsBy fs m c) h k in
    l ∙ ap Some (append_assoc x es fs)

pub grows_one : (e : Event) (a b : Log) → Logs a b e → GrowsBy (e ∷ []) a b
grows_one e None b h = tt
grows_one e (Some x) b h = h

-- ---- steps

some_same : (o : Option State) → option_and_then (steps []) o ≡ o
some_same None = refl
some_same (Some s) = refl

then_assoc : (es fs : List Event) (o : Option State) → ((s : State) → steps (es ++ fs) s ≡ option_and_then (steps fs) (steps es s)) → option_and_then (steps (es ++ fs)) o ≡ option_and_then (steps fs) (option_and_then (steps es) o)
then_assoc es fs None h = refl
then_assoc es fs (Some s) h = h s

pub steps_then : (es fs : List Event) (s : State) → steps (es ++ fs) s ≡ option_and_then (steps fs) (steps es s)
steps_then [] fs s = refl
steps_then (e ∷ es) fs s = then_assoc es fs (step e s) (steps_then es fs)

-- one event that is an item wherever an item is accepted
one_event : (e : Event) (t : Tree) → ((s : State) → IsTrue (takes_items s.top) → step e s ≡ on_top (put t) s) → MakesTree (e ∷ []) t
one_event e t h s k = some_same (step e s) ∙ h s k

pub sends : (e : Event) (t : Tree) (a b : Log) → ((s : State) → IsTrue (takes_items s.top) → step e s ≡ on_top (put t) s) → Logs a b e → WritesEvents t a b
sends e t a b h k = (e ∷ [], grows_one e a b k, one_event e t h)

unit_put : (l : Level) → IsTrue (takes_items l) → put_unit l ≡ put null l
unit_put (in_map ps for_map n) h = absurd (cc h)
unit_put (in_link o) h = absurd (cc h)
unit_put _ h = refl

bytes_put : (b : List ℕ) (l : Level) → IsTrue (takes_items l) → put_bytes b l ≡ put (bytes b) l
bytes_put b (in_map ps for_map n) h = absurd (cc h)
bytes_put b (in_link o) h = absurd (cc h)
bytes_put b _ h = refl

map_begun : (l : Level) (ls : List Level) → IsTrue (takes_items l) → begin_map l ls ≡ Some (state (in_map [] rests 0) (l ∷ ls))
map_begun (in_map ps for_map n) ls h = absurd (cc h)
map_begun (in_link o) ls h = absurd (cc h)
map_begun _ ls h = refl

pub sends_null : (a b : Log) → Logs a b event.nothing → WritesEvents null a b
sends_null a b = sends event.nothing null a b (λ s h. ap (option_map (λ l. state l s.around)) (unit_put s.top h))

pub sends_boolean : (v : Bool) (a b : Log) → Logs a b (event.boolean v) → WritesEvents (boolean v) a b
sends_boolean v a b = sends (event.boolean v) (boolean v) a b (λ s h. refl)

pub sends_integer : (n : ℤ) (a b : Log) → Logs a b (event.signed n) → WritesEvents (integer n) a b
sends_integer n a b = sends (event.signed n) (integer n) a b (λ s h. refl)

pub sends_text : (v : List ℕ) (a b : Log) → Logs a b (event.text v) → WritesEvents (text v) a b
sends_text v a b = sends (event.text v) (text v) a b (λ s h. refl)

pub sends_bytes : (v : List ℕ) (a b : Log) → Logs a b (octets v) → WritesEvents (bytes v) a b
sends_bytes v a b = sends (octets v) (bytes v) a b (λ s h. ap (option_map (λ l. state l s.around)) (bytes_put v s.top h))

-- ---- links

in_map_begun : (es : List Event) (s : State) → IsTrue (takes_items s.top) → option_and_then (steps es) (begin_map s.top s.around) ≡ steps es (state (in_map [] rests 0) (s.top ∷ s.around))
in_map_begun es s h = ap (option_and_then (steps es)) (map_begun s.top s.around h)

link_made : (cid : List ℕ) → MakesTree (link_events cid) (link cid)
link_made cid s h =
    in_map_begun (field_key (codes "/") Kebab ∷ octets cid ∷ map_ends ∷ []) s h
    ∙ some_same (close (Some (link cid)) (s.top ∷ s.around))

pub sends_link : (cid : List ℕ) (a b : Log) → WritesLink cid a b → WritesEvents (link cid) a b
sends_link cid a b h = (
  link_events cid,
  grows_then (map_begins (Some 1) ∷ []) _ _ _ _ (grows_one _ _ _ h.3) (grows_then (field_key (codes "/") Kebab ∷ []) _ _ _ _ (grows_one _ _ _ h.4) (grows_then (octets cid ∷ []) (map_ends ∷ []) _ _ _ (grows_one _ _ _ h.5) (grows_one _ _ _ h.6))),
  link_made cid,
)

-- ---- lists

abbrev MakesItems : List Event → List Tree → Type 0
MakesItems es ts = (us : List Tree) (ls : List Level) → steps es (state (in_list us) ls) ≡ Some (state (in_list (us ++ ts)) ls)

items_made : {A : Type 0} (tree : A → Tree) (xs : List A) (a b : Log) → WritesEach (λ x. WritesEvents (tree x)) xs a b → (es : List Event) × GrowsBy es a b × MakesItems es (map tree xs)
items_made tree [] a b h = ([], grows_none a b h, λ us ls. ap (λ ts. Some (state (in_list ts) ls)) (sym (append-nil us)))
items_made tree (x ∷ xs) a b h =
    let one = h.1 in
    let more = items_made tree xs h.0 b h.2 in (
      one.0 ++ more.0,
      grows_then one.0 more.0 a h.0 b one.1 more.1,
      λ us ls.
          steps_then one.0 more.0 (state (in_list us) ls)
          ∙ ap (option_and_then (steps more.0)) (one.2 (state (in_list us) ls) refl)
          ∙ more.2 (us ++ tree x ∷ []) ls
          ∙ ap (λ ts. Some (state (in_list ts) ls)) (append_assoc us (tree x ∷ []) (map tree xs)),
    )

-- the items in turn make the list of their trees
pub sends_list : {A : Type 0} (tree : A → Tree) (xs : List A) (a b : Log) → WritesSeq (λ x. WritesEvents (tree x)) xs a b → WritesEvents (list (items_of (map tree xs))) a b
sends_list tree xs a b h =
    let each = items_made tree xs h.0 h.1 h.3 in (
      seq_begins (Some _) ∷ (each.0 ++ seq_ends ∷ []),
      grows_then (seq_begins (Some _) ∷ []) (each.0 ++ seq_ends ∷ []) a h.0 b (grows_one _ a h.0 h.2) (grows_then each.0 (seq_ends ∷ []) h.0 h.1 b each.1 (grows_one seq_ends h.1 b h.4)),
      λ s k.
          steps_then each.0 (seq_ends ∷ []) (state (in_list []) (s.top ∷ s.around))
          ∙ ap (option_and_then (steps (seq_ends ∷ []))) (each.2 [] (s.top ∷ s.around))
          ∙ some_same (close (Some (list (items_of (map tree xs)))) (s.top ∷ s.around)),
    )

-- ---- maps

abbrev MakesEntries : List Event → List Pair → Type 0
MakesEntries es qs = (ps : List Pair) (n : ℕ) (ls : List Level) → steps es (state (in_map ps rests n) ls) ≡ Some (state (in_map (ps ++ qs) rests n) ls)

-- the entries of a map of data
abbrev entries_in : List (String Global × Ipld) → List Pair
entries_in xs = map (λ e. (Some (text (string_bytes e.0)), Some (tree_of e.1))) xs

entries_made : (xs : List (String Global × Ipld)) (a b : Log) → WritesEach (WritesEntry (λ k old new. Logs old new (event.text (string_bytes k))) (λ v. WritesEvents (tree_of v))) xs a b → (es : List Event) × GrowsBy es a b × MakesEntries es (entries_in xs)
entries_made [] a b h = ([], grows_none a b h, λ ps n ls. ap (λ qs. Some (state (in_map qs rests n) ls)) (sym (append-nil ps)))
entries_made (x ∷ xs) a b h =
    let one = h.1 in
    let value = one.6 in
    let more = entries_made xs h.0 b h.2 in
    let front : List Event = key_begins ∷ event.text (string_bytes x.0) ∷ key_ends ∷ [] in
    let began = grows_then (key_begins ∷ []) (event.text (string_bytes x.0) ∷ key_ends ∷ []) a one.0 one.2 (grows_one _ _ _ one.3) (grows_then (event.text (string_bytes x.0) ∷ []) (key_ends ∷ []) one.0 one.1 one.2 (grows_one _ _ _ one.4) (grows_one _ _ _ one.5)) in
    let this = grows_then front value.0 a one.2 h.0 began value.1 in (
      (front ++ value.0) ++ more.0,
      grows_then (front ++ value.0) more.0 a h.0 b this more.1,
      λ ps n ls.
          steps_then (front ++ value.0) more.0 (state (in_map ps rests n) ls)
          ∙ ap (option_and_then (steps more.0)) (value.2 (state (in_map ps (for_value (string_bytes x.0)) n) ls) refl)
          ∙ more.2 (ps ++ (Some (text (string_bytes x.0)), Some (tree_of x.1)) ∷ []) n ls
          ∙ ap (λ qs. Some (state (in_map qs rests n) ls)) (append_assoc ps ((Some (text (string_bytes x.0)), Some (tree_of x.1)) ∷ []) (entries_in xs)),
    )

fields_same : (xs : List (String Global × Ipld)) → entries_in xs ≡ fields_of (pairs_of xs)
fields_same [] = refl
fields_same (x ∷ xs) = ap (λ more. (Some (text (string_bytes x.0)), Some (tree_of x.1)) ∷ more) (fields_same xs)

-- the tree of a map
map_made : (m : BTreeMap (String Global) Ipld) → IsStrictlySortedBy string_cmp (keys_of m.entries) → entries_tree (entries_in m.entries) ≡ Some (mapping (ordered_entries (pairs_of m.entries)))
map_made m sorted = map_kind (Map' m) m refl sorted ∙ ap Some (tree_of_Map m)

-- the entries one by one make their map, and are added if it is flattened
pub sends_map : (m : BTreeMap (String Global) Ipld) (a b : Log) → IsStrictlySortedBy string_cmp (keys_of m.entries) → WritesMap (λ k old new. Logs old new (event.text (string_bytes k))) (λ v. WritesEvents (tree_of v)) m.entries a b → WritesEntries (pairs_of m.entries) a b
sends_map m a b sorted h =
    let each = entries_made m.entries h.0 h.1 h.3 in (
      map_begins (Some _) ∷ (each.0 ++ map_ends ∷ []),
      grows_then (map_begins (Some _) ∷ []) (each.0 ++ map_ends ∷ []) a h.0 b (grows_one _ a h.0 h.2) (grows_then each.0 (map_ends ∷ []) h.0 h.1 b each.1 (grows_one map_ends h.1 b h.4)),
      (λ s k.
          in_map_begun (each.0 ++ map_ends ∷ []) s k
          ∙ steps_then each.0 (map_ends ∷ []) (state (in_map [] rests 0) (s.top ∷ s.around))
          ∙ ap (option_and_then (steps (map_ends ∷ []))) (each.2 [] 0 (s.top ∷ s.around))
          ∙ some_same (close (entries_tree (entries_in m.entries)) (s.top ∷ s.around))
          ∙ ap (λ o. close o (s.top ∷ s.around)) (map_made m sorted)),
      λ qs n ls.
          steps_then each.0 (map_ends ∷ []) (state (in_map qs rests (suc n)) ls)
          ∙ ap (option_and_then (steps (map_ends ∷ []))) (each.2 qs (suc n) ls)
          ∙ ap (λ ps. Some (state (in_map (qs ++ ps) rests n) ls)) (fields_same m.entries),
    )

pub added_entries : EntriesAreAdded
added_entries ps before after qs n ls h k =
    let es = h.2.0 in
    let grown : Some after ≡ Some (before ++ flattens ∷ es) = grows_then (flattens ∷ []) es (Some before) h.0 (Some after) (grows_one flattens (Some before) h.0 h.1) h.2.1 in
    let same : after ≡ before ++ flattens ∷ es = ap (λ o. elim o [ None ↦ after | Some x ↦ x ]) grown in
    ap (λ fs. steps fs start) same
    ∙ steps_then before (flattens ∷ es) start
    ∙ ap (option_and_then (steps (flattens ∷ es))) k
    ∙ h.2.3 qs n ls

-- ---- whole values

whole_made : (es : List Event) (t : Tree) → MakesTree es t → events_tree es ≡ Some t
whole_made es t h = ap (option_and_then finished) (h start refl)

pub written_trees : TreesAreWritten
written_trees t None b h k = absurd k
written_trees t (Some es) b h k =
    let same : es ≡ h.0 = ap (λ o. elim o [ None ↦ es | Some x ↦ x ]) h.1 in
    let P : Option Tree → Type 0 = λ o. IsSomeAnd o (λ u. IsSpelling b u) in
    subst P (ap events_tree same ∙ whole_made h.0 t h.2) k

-- ---- the kinds of an `Ipld`

pub null_kind : (j : Ipld) → j ≡ Null' → null ≡ tree_of j
null_kind j is = sym (search (rules, the_lemmas)) ∙ ap tree_of (sym is)

pub bool_kind : (j : Ipld) (b : Bool) → j ≡ Bool' b → boolean b ≡ tree_of j
bool_kind j b is = sym (search (rules, the_lemmas)) ∙ ap tree_of (sym is)

pub integer_kind : (j : Ipld) (n : ℤ) → j ≡ Integer' n → integer n ≡ tree_of j
integer_kind j n is = sym (search (rules, the_lemmas)) ∙ ap tree_of (sym is)

pub text_kind : (j : Ipld) (s : String Global) → j ≡ String' s → text (string_bytes s) ≡ tree_of j
text_kind j s is = sym (tree_of_String s) ∙ ap tree_of (sym is)

pub bytes_kind : (j : Ipld) (v : Vec ℕ Global) → j ≡ Bytes' v → bytes v.items ≡ tree_of j
bytes_kind j v is = sym (search (rules, the_lemmas)) ∙ ap tree_of (sym is)

pub link_kind : (j : Ipld) (c : CidParts) → j ≡ Link' c → link (cid_bytes c) ≡ tree_of j
link_kind j c is = sym (search (rules, the_lemmas)) ∙ ap tree_of (sym is)

-- the events of a leaf, of whichever kind it is
pub of_kind : {T E : Type 0} (r : Result T E) (sent : Type 0) (t u : Tree) (a b : Log) → t ≡ u → (sent → WritesEvents t a b) → OnOk r sent → OnOk r (WritesEvents u a b)
of_kind r sent t u a b is f h = on_ok_weaker r (λ s. subst (λ x. WritesEvents x a b) is (f s)) h

pub map_is : (j : Ipld) (m : BTreeMap (String Global) Ipld) → j ≡ Map' m → mapping (ordered_entries (pairs_of m.entries)) ≡ tree_of j
map_is j m is = sym (tree_of_Map m) ∙ ap tree_of (sym is)

-- ---- what std's types send

pub leaves_written : LeavesAreWritten
leaves_written a b = (
  sends_null a b,
  (λ v. sends_boolean v a b),
  (λ n. sends (event.unsigned n) (integer (pos n)) a b (λ s h. refl)),
  (λ n. sends_integer n a b),
  (λ v. sends_text v a b),
  (λ v. sends_bytes v a b),
  (λ cid. sends_link cid a b),
)

each_as : {A : Type 0} (writes : A → Log → Log → Type 0) (view : A → Tree) → ((x : A) (a b : Log) → writes x a b → WritesEvents (view x) a b) → (xs : List A) (a b : Log) → WritesEach writes xs a b → WritesEach (λ x. WritesEvents (view x)) xs a b
each_as writes view is [] a b h = h
each_as writes view is (x ∷ xs) a b h = (h.0, is x a h.0 h.1, each_as writes view is xs h.0 b h.2)

pub lists_written : {A : Type 0} (writes : A → Log → Log → Type 0) → ListsAreWritten writes
lists_written writes view xs old new is h = sends_list view xs old new (h.0, h.1, h.2, each_as writes view is xs h.0 h.1 h.3, h.4)
