-- Levels of a tree, joined and opened.
use Rattle.std.proofs.Common.{◌≡◌, ◌⊎◌, ◌↔◌, Bool, true, false, inl, inr, ℕ, ◌+◌, ◌<◌, add-one, get_or, length, take, take-suc, map, List, [], ◌∷◌, ◌++◌, append_assoc, append-nil, refl, sym, ap, ◌∙◌, subst, Option, Some, None, Result, Ok, Err}
use Rattle.std.specs.Prelude.{MatchResult, IfOk, IsTrue, is_some}
use Rattle.ipld_links.proofs.Members.{among_push, push_among}
use Rattle.std.specs.declared.alloc.AllocError.{AllocError}
use Rattle.ipld_tree.specs.Cid.{CidParts}
use Rattle.ipld_links.specs.Sets.{Among, members, AddsCid}
use Rattle.ipld_links.specs.Reaching.{Stored}
use Rattle.ipld_links.specs.declared.cid_set.CidSet.{CidSet}
use Rattle.atproto_mst.specs.Entries.{entry_of, entries}
use Rattle.atproto_mst.specs.Nodes.{NodeParts, IsNodeAt, node_told}
use Rattle.atproto_mst.specs.Stops.{IsStoredNamed, NodeFault}
use Rattle.atproto_mst.specs.Levels.{LevelItem, an_entry, a_link, link_items, node_items, held_items, link_names, OpensItems, DropsShared, LevelLinksRefused}
use Rattle.atproto_mst.specs.declared.entries.MstEntry.{MstEntry}
use Rattle.atproto_mst.specs.declared.error.MstError.{MstError}
use Rattle.atproto_mst.specs.declared.error.MstError.TheVariants as error
use Rattle.atproto_mst.specs.declared.levels.LevelEntry.{LevelEntry}
use Rattle.types_repository.specs.declared.repository.Node.{Node}

-- ---- items, joined

pub links_joined : (xs ys : List LevelItem) → link_names (xs ++ ys) ≡ link_names xs ++ link_names ys
links_joined [] ys = refl
links_joined (an_entry e ∷ xs) ys = links_joined xs ys
links_joined (a_link name ∷ xs) ys = ap (λ l. name ∷ l) (links_joined xs ys)

pub held_joined : (xs ys : List LevelEntry) → held_items (xs ++ ys) ≡ held_items xs ++ held_items ys
held_joined [] ys = refl
held_joined (h ∷ hs) ys = ap (λ l. an_entry (entry_of h.entry) ∷ (link_items h.after ++ l)) (held_joined hs ys)
    ∙ ap (λ l. an_entry (entry_of h.entry) ∷ l) (sym (append_assoc (link_items h.after) (held_items hs) (held_items ys)))

pub pushed : (old new : List LevelEntry) (h : LevelEntry) → new ≡ old ++ h ∷ []
    → held_items new ≡ held_items old ++ (an_entry (entry_of h.entry) ∷ link_items h.after)
pushed old new h is = ap held_items is ∙ held_joined old (h ∷ [])
    ∙ ap (λ l. held_items old ++ (an_entry (entry_of h.entry) ∷ l)) (append-nil (link_items h.after))

pub opens_joined : (stored : Stored) (dropped : List CidParts) (xs ys a b : List LevelItem) → OpensItems stored dropped xs a → OpensItems stored dropped ys b → OpensItems stored dropped (xs ++ ys) (a ++ b)
opens_joined stored dropped [] ys a b h k = subst (λ l. OpensItems stored dropped ys (l ++ b)) (sym h) k
opens_joined stored dropped (x ∷ xs) ys a b (first, more, one, rest, is) k =
    (first, more ++ b, one, opens_joined stored dropped xs ys more b rest k, ap (λ l. l ++ b) is ∙ append_assoc first more b)

-- ---- one entry at a time

map_joined : (xs ys : List MstEntry) → map (λ e. an_entry (entry_of e)) (xs ++ ys) ≡ map (λ e. an_entry (entry_of e)) xs ++ map (λ e. an_entry (entry_of e)) ys
map_joined [] ys = refl
map_joined (x ∷ xs) ys = ap (λ l. an_entry (entry_of x) ∷ l) (map_joined xs ys)

told : (xs : List MstEntry) → map (λ e. an_entry (entry_of e)) xs ≡ map an_entry (entries xs)
told [] = refl
told (x ∷ xs) = ap (λ l. an_entry (entry_of x) ∷ l) (told xs)

pub entries_next : (hs : List LevelEntry) (h : LevelEntry) (old new : List MstEntry) → held_items hs ≡ map an_entry (entries old) → h.after ≡ None → new ≡ old ++ h.entry ∷ []
    → held_items (hs ++ h ∷ []) ≡ map an_entry (entries new)
entries_next hs h old new inv none is =
    held_joined hs (h ∷ []) ∙ ap (λ l. held_items hs ++ (an_entry (entry_of h.entry) ∷ (link_items l ++ []))) none
    ∙ ap (λ l. l ++ (an_entry (entry_of h.entry) ∷ [])) (inv ∙ sym (told old)) ∙ sym (map_joined old (h.entry ∷ [])) ∙ told (old ++ h.entry ∷ []) ∙ ap (λ l. map an_entry (entries l)) (sym is)

-- ---- names

pub among_left : (q : CidParts) (xs ys : List CidParts) → Among q xs → Among q (xs ++ ys)
among_left q [] ys h = absurd h
among_left q (x ∷ xs) ys (inl e) = inl e
among_left q (x ∷ xs) ys (inr h) = inr (among_left q xs ys h)

pub among_right : (q : CidParts) (xs ys : List CidParts) → Among q ys → Among q (xs ++ ys)
among_right q [] ys h = h
among_right q (x ∷ xs) ys h = inr (among_right q xs ys h)

take_one_more : (names : List CidParts) (i : ℕ) (n : CidParts) → i < length names → n ≡ get_or names i n → take (i + 1) names ≡ take i names ++ n ∷ []
take_one_more names i n lt is = ap (λ k. take k names) (add-one i) ∙ take-suc names i n lt ∙ ap (λ y. take i names ++ y ∷ []) (sym is)

-- the names up to here
name_before : (names : List CidParts) (i : ℕ) (q n : CidParts) → i < length names → n ≡ get_or names i n → Among q (take (i + 1) names) ↔ (Among q (take i names) ⊎ (q ≡ n))
name_before names i q n lt is =
    let e : take (i + 1) names ≡ take i names ++ n ∷ [] = take_one_more names i n lt is in
    (λ m. among_push q (take i names) n (subst (Among q) e m), λ m. subst (Among q) (sym e) (push_among q (take i names) n m))

abbrev pub HasAllOf : CidSet → List CidParts → Type 0
HasAllOf set names = (q : CidParts) → Among q (members set) ↔ Among q names

pub name_added : (names : List CidParts) (i : ℕ) (n : CidParts) (old new : CidSet) → i < length names → n ≡ get_or names i n → AddsCid n old new
    → HasAllOf old (take i names) → HasAllOf new (take (i + 1) names)
name_added names i n old new lt is a h q = (
  λ m. (name_before names i q n lt is).1 (elim ((a.1 q).0 m) [ inl k ↦ inl ((h q).0 k) | inr e ↦ inr e ]),
  λ m. (a.1 q).1 (elim ((name_before names i q n lt is).0 m) [ inl k ↦ inl ((h q).1 k) | inr e ↦ inr e ]),
)

-- the names of both, as far as the others were looked at
abbrev pub HasCommonOf : CidSet → List CidParts → List CidParts → Type 0
HasCommonOf set names others = (q : CidParts) → Among q (members set) ↔ (Among q names × Among q others)

pub common_added : (names others : List CidParts) (i : ℕ) (n : CidParts) (old new : CidSet) → i < length others → n ≡ get_or others i n → Among n names → AddsCid n old new
    → HasCommonOf old names (take i others) → HasCommonOf new names (take (i + 1) others)
common_added names others i n old new lt is among a h q = (
  λ m. elim ((a.1 q).0 m) [
    | inl k ↦ let both = (h q).0 k in (both.0, (name_before others i q n lt is).1 (inl both.1))
    | inr e ↦ (subst (λ x. Among x names) (sym e) among, (name_before others i q n lt is).1 (inr e))
  ],
  λ m. (a.1 q).1 (elim ((name_before others i q n lt is).0 m.1) [ inl k ↦ inl ((h q).1 (m.0, k)) | inr e ↦ inr e ]),
)

pub other_passed : (names others : List CidParts) (i : ℕ) (n : CidParts) (set : CidSet) → i < length others → n ≡ get_or others i n → ¬ Among n names
    → HasCommonOf set names (take i others) → HasCommonOf set names (take (i + 1) others)
other_passed names others i n set lt is not h q = (
  λ m. let both = (h q).0 m in (both.0, (name_before others i q n lt is).1 (inl both.1)),
  λ m. elim ((name_before others i q n lt is).0 m.1) [
    | inl k ↦ (h q).1 (m.0, k)
    | inr e ↦ absurd (not (subst (λ x. Among x names) e m.0))
  ],
)

pub drops_all : (names others first second : List CidParts) (b : Bool) (r : Result CidSet AllocError) → b ≡ true → first ≡ names → second ≡ others
    → IfOk r (λ s. HasCommonOf s first second) → IfOk r (λ s. DropsShared b names others (members s))
drops_all names others first second false (Ok s) e is_first is_second h = absurd (cc e)
drops_all names others first second true (Ok s) e is_first is_second h =
    subst (λ x. HasCommonOf s x others) is_first (subst (HasCommonOf s first) is_second h)
drops_all names others first second b (Err e) n is_first is_second h = tt

-- ---- refusals

pub more_refused : (stored : Stored) (names more : List CidParts) (e : MstError) → ((q : CidParts) → Among q names → Among q more) → LevelLinksRefused stored names e → LevelLinksRefused stored more e
more_refused stored names more e f (inl m) = inl m
more_refused stored names more e f (inr (inl s)) = inr (inl s)
more_refused stored names more e f (inr (inr (name, among, fault))) = inr (inr (name, f name among, fault))

-- ---- a link

pub not_so : (P : Type 0) (b : Bool) → b ≡ false → IsTrue b ↔ P → ¬ P
not_so P true e h p = absurd (cc e)
not_so P false e h p = absurd (cc (h.1 p))

pub none_there : (x : Option CidParts) (b : Bool) → b ≡ false → b ≡ is_some x → x ≡ None
none_there None b e h = refl
none_there (Some x) b e h = absurd (cc (e, h))

opens_node : (stored : Stored) (dropped : List CidParts) (name : CidParts) (p : NodeParts) → ¬ Among name dropped → IsNodeAt stored name p → OpensItems stored dropped (a_link name ∷ []) (node_items p)
opens_node stored dropped name p not at = (node_items p, [], inr (not, (p, at, refl)), refl, sym (append-nil (node_items p)))

fault_refused : (stored : Stored) (name : CidParts) (e : MstError) → ((e ≡ error.OutOfMemory) × IsStoredNamed stored name) ⊎ NodeFault stored name e → LevelLinksRefused stored (name ∷ []) e
fault_refused stored name e (inl m) = inl m.0
fault_refused stored name e (inr f) = inr (inr (name, inl refl, f))

node_read : (stored : Stored) (dropped : List CidParts) (name : CidParts) (not : ¬ Among name dropped) (r : Result Node MstError)
    → MatchResult r (λ n. IsNodeAt stored name (node_told n)) (λ e. ((e ≡ error.OutOfMemory) × IsStoredNamed stored name) ⊎ NodeFault stored name e)
    → MatchResult r (λ n. OpensItems stored dropped (a_link name ∷ []) (node_items (node_told n))) (LevelLinksRefused stored (name ∷ []))
node_read stored dropped name not (Ok n) h = opens_node stored dropped name (node_told n) not h
node_read stored dropped name not (Err e) h = fault_refused stored name e h

-- the node of a link that is not dropped
pub node_opened : (stored : Stored) (dropped : List CidParts) (link : Option CidParts) (name : CidParts) → link ≡ Some name → ¬ Among name dropped → (r : Result Node MstError)
    → MatchResult r (λ n. IsNodeAt stored name (node_told n)) (λ e. ((e ≡ error.OutOfMemory) × IsStoredNamed stored name) ⊎ NodeFault stored name e)
    → MatchResult r (λ n. OpensItems stored dropped (link_items link) (node_items (node_told n))) (LevelLinksRefused stored (link_names (link_items link)))
node_opened stored dropped link name is not r h =
    subst (λ l. MatchResult r (λ n. OpensItems stored dropped (link_items l) (node_items (node_told n))) (LevelLinksRefused stored (link_names (link_items l)))) (sym is) (node_read stored dropped name not r h)

-- ---- a level

-- the entries opened so far, after the rows of the node on the left
pub level_next : (stored : Stored) (dropped : List CidParts) (hs : List LevelEntry) (h : LevelEntry) (rows old new : List LevelItem)
    → (more : List LevelItem) × OpensItems stored dropped (held_items hs) more × (old ≡ rows ++ more)
    → (more : List LevelItem) × OpensItems stored dropped (held_items (h ∷ [])) more × (new ≡ old ++ more)
    → (more : List LevelItem) × OpensItems stored dropped (held_items (hs ++ h ∷ [])) more × (new ≡ rows ++ more)
level_next stored dropped hs h rows old new (before, opened, was) (more, opens, is) = (
  before ++ more,
  subst (λ l. OpensItems stored dropped l (before ++ more)) (sym (held_joined hs (h ∷ []))) (opens_joined stored dropped (held_items hs) (held_items (h ∷ [])) before more opened opens),
  is ∙ ap (λ l. l ++ more) was ∙ append_assoc rows before more,
)

-- the links of one of the entries are links of the level
pub links_within : (left : Option CidParts) (all before rest : List LevelEntry) (h : LevelEntry) → all ≡ before ++ h ∷ rest
    → (q : CidParts) → Among q (link_names (held_items (h ∷ []))) → Among q (link_names (link_items left ++ held_items all))
links_within left all before rest h is q m =
    let one = subst (Among q) (ap link_names (append-nil (link_items h.after))) m in
    let following = subst (Among q) (sym (links_joined (link_items h.after) (held_items rest))) (among_left q (link_names (link_items h.after)) (link_names (held_items rest)) one) in
    let there = subst (Among q) (sym (links_joined (held_items before) (held_items (h ∷ rest)))) (among_right q (link_names (held_items before)) (link_names (held_items (h ∷ rest))) following) in
    let all_there = subst (Among q) (ap link_names (sym (held_joined before (h ∷ rest)) ∙ ap held_items (sym is))) there in
    subst (Among q) (sym (links_joined (link_items left) (held_items all))) (among_right q (link_names (link_items left)) (link_names (held_items all)) all_there)
