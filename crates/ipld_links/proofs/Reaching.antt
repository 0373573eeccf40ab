-- The walk along links.
use Rattle.std.proofs.Common.{◌≡◌, ◌⊎◌, inl, inr, ℕ, zero, suc, List, [], ◌∷◌, ◌++◌, reverse, Bool, true, false, cond, refl, sym, ap, ◌∙◌, subst, ◌↔◌, Option, None, Some, MatchOption, is_some, option_map, Result, Ok, Err, IfOk, OnOk, Vec, Global, BTreeSet}
use Rattle.std.specs.List.{AllByRecursion}
use Rattle.std.specs.BTreeMap.{is_at}
use Rattle.std.specs.BTreeSet as set
use Rattle.std.proofs.lemmas.Grind.{reverse_onto}
use Rattle.ipld_tree.specs.Cid.{CidParts, AreCidParts, cid_bytes, cid_cmp}
use Rattle.ipld_tree.proofs.Cids.{cid_unique}
use Rattle.dagcbor_items.specs.Walks.{forms}
use Rattle.ipld_links.specs.Names.{IsInline}
use Rattle.ipld_links.specs.Blocks.{HasLinks, HasKnownLinks}
use Rattle.ipld_links.specs.Verdicts.{HidesLinks}
use Rattle.ipld_links.specs.declared.verdict.Verdict.{Verdict}
use Rattle.ipld_links.specs.Sets.{Among}
use Rattle.ipld_links.specs.declared.reach.Walk.{Walk}
use Rattle.ipld_links.specs.Reaching.{Stored, IsThere, IsLost, AreBytesOf, NamesLinks, LeadsTo, IsStepsFrom, LeadsFar, NoneTwice, Lists, ListsReachable, ListsLost, Covers, IsWalked, Visits, AreLinksOf, PushesAll, Sees, SeesAlso, Sorts, SortsOut, KnowsLinks, HidesLinksUnder, WalksAt}
use Rattle.ipld_links.proofs.Rows.{one_links}
use Rattle.ipld_links.proofs.Members.{at_same, same_at, any_among, among_any, among_push, push_among, among_append, append_among, among_map, map_among}

-- ---- lists

among_reverse : {X : Type 0} (x : X) (xs : List X) → Among x xs → Among x (reverse xs)
among_reverse x [] h = absurd h
among_reverse x (y ∷ ys) h = subst (Among x) (sym (reverse_onto ys y [])) (push_among x (reverse ys) y (elim h [ inl e ↦ inr e | inr m ↦ inl (among_reverse x ys m) ]))

reverse_among : {X : Type 0} (x : X) (xs : List X) → Among x (reverse xs) → Among x xs
reverse_among x [] h = absurd h
reverse_among x (y ∷ ys) h = elim (among_push x (reverse ys) y (subst (Among x) (reverse_onto ys y []) h)) [ inl m ↦ inr (reverse_among x ys m) | inr e ↦ inl e ]

once_push : {X : Type 0} (xs : List X) (y : X) → NoneTwice xs → (Among y xs → ⊥) → NoneTwice (xs ++ y ∷ [])
once_push [] y h none = (λ m. m, tt)
once_push (x ∷ xs) y h none = (
  λ m. elim (among_push x xs y m) [ inl n ↦ h.0 n | inr e ↦ none (inl (sym e)) ],
  once_push xs y h.1 (λ m. none (inr m)),
)

all_among : {X : Type 0} (P : X → Type 0) (xs : List X) (x : X) → AllByRecursion P xs → Among x xs → P x
all_among P [] x h m = absurd m
all_among P (y ∷ ys) x h (inl e) = subst P (sym e) h.0
all_among P (y ∷ ys) x h (inr m) = all_among P ys x h.1 m

-- ---- the links of one block

-- the bytes under a name are the same
one_bytes : (stored : Stored) (name : CidParts) (b c : List ℕ) → AreBytesOf stored name b → AreBytesOf stored name c → b ≡ c
one_bytes stored name b c (inl h) (inl k) = cc (sym h ∙ k)
one_bytes stored name b c (inl h) (inr k) = let clash : Some b ≡ None = sym h ∙ k.0 in absurd (cc clash)
one_bytes stored name b c (inr h) (inl k) = let clash : Some c ≡ None = sym k ∙ h.0 in absurd (cc clash)
one_bytes stored name b c (inr h) (inr k) = sym h.2 ∙ k.2

pub links_inside : {E : Type 0} (r : Result (Vec CidParts Global) E) (stored : Stored) (name : CidParts) → stored name ≡ None → IfOk r (λ v. AreLinksOf (λ all. IsInline name × HasLinks name.codec name.digest all) v.items) → IfOk r (λ v. AreLinksOf (NamesLinks stored name) v.items)
links_inside (Err e) stored name free links = tt
links_inside (Ok v) stored name free (inl h) = inl (name.digest, inr (free, h.0, refl), h.1)
links_inside (Ok v) stored name free (inr n) = inr (
  n.0,
  λ all k. elim k.1 [
    | inl s ↦ (let clash : None ≡ Some k.0 = sym free ∙ s in absurd (cc clash))
    | inr s ↦ n.1 all (s.1, subst (λ x. HasLinks name.codec x all) (sym s.2) k.2)
  ],
)

pub inline_links : {E : Type 0} (r : Result (Vec CidParts Global) E) (name : CidParts) → IsInline name → IfOk r (λ v. AreLinksOf (HasLinks name.codec name.digest) v.items) → IfOk r (λ v. AreLinksOf (λ all. IsInline name × HasLinks name.codec name.digest all) v.items)
inline_links (Err e) name i h = tt
inline_links (Ok v) name i (inl h) = inl (i, h)
inline_links (Ok v) name i (inr n) = inr (n.0, λ all k. n.1 all k.1)

pub named_links : {E : Type 0} (r : Result (Vec CidParts Global) E) (stored : Stored) (name : CidParts) (b : List ℕ) → stored name ≡ Some b → IfOk r (λ v. AreLinksOf (HasLinks name.codec b) v.items) → IfOk r (λ v. AreLinksOf (NamesLinks stored name) v.items)
named_links (Err e) stored name b at h = tt
named_links (Ok v) stored name b at (inl h) = inl (b, inl at, h)
named_links (Ok v) stored name b at (inr n) = inr (n.0, λ all k. n.1 all (subst (λ x. HasLinks name.codec x all) (one_bytes stored name k.0 b k.1 (inl at)) k.2))

-- the links under a name are these
one_named : (stored : Stored) (name : CidParts) (ls ms : List (List ℕ)) → NamesLinks stored name ls → NamesLinks stored name ms → ls ≡ ms
one_named stored name ls ms h k =
    let block = subst (λ x. HasLinks name.codec x ls) (one_bytes stored name h.0 k.0 h.1 k.1) h.2 in
    one_links name.codec k.0 ls ms block k.2

-- ---- one name

pub name_seen : (name : CidParts) (old new : BTreeSet CidParts) → ((q : CidParts) → set.contains cid_cmp new q ≡ cond (is_at (cid_cmp name) q) true (set.contains cid_cmp old q))
    → (q : CidParts) → Among q new.keys ↔ (Among q old.keys ⊎ (q ≡ name))
name_seen name old new put q = (
  λ m. there (is_at (cid_cmp name) q) refl (sym (put q) ∙ among_any q new.keys m),
  λ h. any_among q new.keys (put q ∙ back h),
)
  where
    there : (b : Bool) → is_at (cid_cmp name) q ≡ b → cond b true (set.contains cid_cmp old q) ≡ true → Among q old.keys ⊎ (q ≡ name)
    there true t m = inr (sym (at_same name q t))
    there false t m = inl (any_among q old.keys m)

    kept : (b : Bool) {x : Bool} → x ≡ true → cond b true x ≡ true
    kept true e = refl
    kept false e = e

    back : Among q old.keys ⊎ (q ≡ name) → cond (is_at (cid_cmp name) q) true (set.contains cid_cmp old q) ≡ true
    back (inl m) = kept (is_at (cid_cmp name) q) (among_any q old.keys m)
    back (inr u) = ap (λ b. cond b true (set.contains cid_cmp old q)) (same_at name q (sym u))

pub not_seen : (name : CidParts) (s : BTreeSet CidParts) → set.contains cid_cmp s name ≡ false → Among name s.keys → ⊥
not_seen name s e m = let clash : true ≡ false = sym (among_any name s.keys m) ∙ e in absurd (cc clash)

-- ---- the walk

-- a name that was seen waits no more
pub walk_on : (stored : Stored) (root name : CidParts) (seen before waiting found lost : List CidParts) → before ≡ waiting ++ name ∷ [] → Among name seen → IsWalked stored root seen before found lost → IsWalked stored root seen waiting found lost
walk_on stored root name seen before waiting found lost waits m h = record {
  begun = covers root h.begun;
  next = λ q r k l. covers r (h.next q r k l);
  stepped = λ q k. h.stepped q (back q k);
  valid = λ q k. h.valid q (back q k);
  finds = h.finds;
  loses = h.loses;
  first = elim h.first [ inl b ↦ absurd (subst (Among name) b.0 m) | inr f ↦ inr f ];
}
  where
    covers : (q : CidParts) → Covers seen before q → Covers seen waiting q
    covers q (inl s) = inl s
    covers q (inr w) = elim (among_push q waiting name (subst (Among q) waits w)) [ inl k ↦ inr k | inr e ↦ inl (subst (λ x. Among x seen) (sym e) m) ]

    back : (q : CidParts) → Covers seen waiting q → Covers seen before q
    back q (inl s) = inl s
    back q (inr w) = inr (subst (Among q) (sym waits) (push_among q waiting name (inl w)))

-- one more name is seen, of which P does not hold, and the list stays
lists_same : (P : CidParts → Type 0) (name : CidParts) (seen more listed new : List CidParts) → ((q : CidParts) → Among q more ↔ (Among q seen ⊎ (q ≡ name))) → (P name → ⊥) → new ≡ listed → Lists (λ q. Among q seen × P q) listed → Lists (λ q. Among q more × P q) new
lists_same P name seen more listed new sees other same h = record {
  all = λ q. (
    λ m. let k = (h.all q).0 (subst (Among q) same m) in ((sees q).1 (inl k.0), k.1),
    λ k. subst (Among q) (sym same) (elim ((sees q).0 k.0) [ inl o ↦ (h.all q).1 (o, k.1) | inr e ↦ absurd (other (subst P e k.1)) ]),
  );
  once = subst NoneTwice (sym same) h.once;
}

lists_push : (P : CidParts → Type 0) (name : CidParts) (seen more listed new : List CidParts) → ((q : CidParts) → Among q more ↔ (Among q seen ⊎ (q ≡ name))) → (Among name seen → ⊥) → P name → new ≡ listed ++ name ∷ [] → Lists (λ q. Among q seen × P q) listed → Lists (λ q. Among q more × P q) new
lists_push P name seen more listed new sees fresh is put h = record {
  all = λ q. (
    λ m. elim (among_push q listed name (subst (Among q) put m)) [
      | inl o ↦ let k = (h.all q).0 o in ((sees q).1 (inl k.0), k.1)
      | inr e ↦ ((sees q).1 (inr e), subst P (sym e) is)
    ],
    λ k. subst (Among q) (sym put) (push_among q listed name (elim ((sees q).0 k.0) [ inl o ↦ inl ((h.all q).1 (o, k.1)) | inr e ↦ inr e ])),
  );
  once = subst NoneTwice (sym put) (once_push listed name h.once (λ m. fresh ((h.all name).0 m).0));
}

module _ (stored : Stored) (root name : CidParts) (block : Option (List ℕ)) (at : stored name ≡ block) (seen waiting found lost : List CidParts) (fresh : Among name seen → ⊥) (h : IsWalked stored root seen (waiting ++ name ∷ []) found lost)
    (more later finds loses links : List CidParts) (sees : (q : CidParts) → Among q more ↔ (Among q seen ⊎ (q ≡ name))) (pushes : PushesAll (reverse links) waiting later) (listed : AreLinksOf (NamesLinks stored name) links) where
  here : Covers seen (waiting ++ name ∷ []) name
  here = inr (push_among name waiting name (inr refl))

  waits_now : (q : CidParts) → Among q waiting ⊎ Among q (reverse links) → Among q later
  waits_now q m = subst (Among q) (sym pushes.1) (append_among q waiting (reverse links) m)

  covers : (q : CidParts) → Covers seen (waiting ++ name ∷ []) q → Covers more later q
  covers q (inl s) = inl ((sees q).1 (inl s))
  covers q (inr w) = elim (among_push q waiting name w) [ inl m ↦ inr (waits_now q (inl m)) | inr e ↦ inl ((sees q).1 (inr e)) ]

  valid_link : (q : CidParts) → Among q (reverse links) → AreCidParts q
  valid_link q m = all_among AreCidParts (reverse links) q pushes.0 m

  leads : (q : CidParts) → Among q (reverse links) → LeadsTo stored name q
  leads q m = elim listed [
    | inl t ↦ (valid_link q m, (forms links, t, among_map cid_bytes q links (reverse_among q links m)))
    | inr n ↦ absurd (subst (Among q) n.0 (reverse_among q links m))
  ]

  linked : (r : CidParts) → LeadsTo stored name r → Among r (reverse links)
  linked r l = elim listed [
    | inl t ↦
        let same : l.1.0 ≡ forms links = one_named stored name l.1.0 (forms links) l.1.1 t in
        let k = map_among cid_bytes (cid_bytes r) links (subst (Among (cid_bytes r)) same l.1.2) in
        let m = among_reverse k.0 links k.1 in
        subst (λ x. Among x (reverse links)) (sym (cid_unique r k.0 l.0 (valid_link k.0 m) k.2)) m
    | inr n ↦ absurd (n.1 l.1.0 l.1.1)
  ]

  -- a property of each name covered before holds of each covered now, if it holds of the links
  all_covered : (P : CidParts → Type 0) → ((q : CidParts) → Covers seen (waiting ++ name ∷ []) q → P q) → ((q : CidParts) → Among q (reverse links) → P q) → (q : CidParts) → Covers more later q → P q
  all_covered P old new q (inl m) = elim ((sees q).0 m) [ inl o ↦ old q (inl o) | inr e ↦ subst P (sym e) (old name here) ]
  all_covered P old new q (inr w) = elim (among_append q waiting (reverse links) (subst (Among q) pushes.1 w)) [
    | inl o ↦ old q (inr (push_among q waiting name (inl o)))
    | inr t ↦ new q t
  ]

  further : (q : CidParts) → Among q (reverse links) → LeadsFar stored root q
  further q t = let reached = h.stepped name here in (suc reached.0, (name, reached.1, leads q t))

  is_there : is_some block ≡ true → is_some (stored name) ≡ true
  is_there t = ap is_some at ∙ t

  nothing : (o : Option (List ℕ)) → is_some o ≡ false → o ≡ None
  nothing None e = refl
  nothing (Some x) e = absurd (cc e)

  there_or_not : (A : Type 0) → is_some (stored name) ≡ true → stored name ≡ None → A
  there_or_not A t e = let clash : true ≡ false = sym t ∙ ap is_some e in absurd (cc clash)

  found_now : Sorts name (is_some block) found lost finds loses → Lists (λ q. Among q more × IsThere stored q) finds
  found_now (inl s) = lists_push (IsThere stored) name seen more found finds sees fresh (is_there s.0) s.1 h.finds
  found_now (inr (inl s)) = lists_same (IsThere stored) name seen more found finds sees (λ k. there_or_not ⊥ k (at ∙ nothing block s.0)) s.2 h.finds
  found_now (inr (inr s)) = lists_same (IsThere stored) name seen more found finds sees (λ k. there_or_not ⊥ k (at ∙ nothing block s.0)) s.2 h.finds

  lost_now : Sorts name (is_some block) found lost finds loses → Lists (λ q. Among q more × IsLost stored q) loses
  lost_now (inl s) = lists_same (IsLost stored) name seen more lost loses sees (λ k. there_or_not ⊥ (is_there s.0) k.0) s.2 h.loses
  lost_now (inr (inl s)) = lists_same (IsLost stored) name seen more lost loses sees (λ k. k.1 s.1) s.3 h.loses
  lost_now (inr (inr s)) = lists_push (IsLost stored) name seen more lost loses sees fresh (at ∙ nothing block s.0, s.1) s.3 h.loses

  only_one : (x : CidParts) → Among x (root ∷ []) → x ≡ root
  only_one x (inl e) = e
  only_one x (inr m) = absurd m

  tail_nil : (ws : List CidParts) → ws ++ name ∷ [] ≡ root ∷ [] → name ≡ root
  tail_nil ws e = only_one name (subst (Among name) e (push_among name ws name (inr refl)))

  -- the first that is found is the root
  first_of : Sorts name (is_some block) found lost finds loses → seen ≡ [] → name ≡ root → IsThere stored root → (rest : List CidParts) × (finds ≡ root ∷ rest)
  first_of (inl s) none same t = ([], s.1 ∙ ap (λ l. l ++ name ∷ []) (no_member found (λ q m. subst (Among q) none ((h.finds.all q).0 m).0)) ∙ ap (λ x. x ∷ []) same)
    where
      no_member : (xs : List CidParts) → ((q : CidParts) → Among q xs → ⊥) → xs ≡ []
      no_member [] k = refl
      no_member (x ∷ xs) k = absurd (k x (inl refl))
  first_of (inr (inl s)) none same t = there_or_not ((rest : List CidParts) × (finds ≡ root ∷ rest)) (ap (λ x. is_some (stored x)) same ∙ t) (at ∙ nothing block s.0)
  first_of (inr (inr s)) none same t = there_or_not ((rest : List CidParts) × (finds ≡ root ∷ rest)) (ap (λ x. is_some (stored x)) same ∙ t) (at ∙ nothing block s.0)

  still_first : Sorts name (is_some block) found lost finds loses → (rest : List CidParts) × (found ≡ root ∷ rest) → (rest : List CidParts) × (finds ≡ root ∷ rest)
  still_first (inl s) o = (o.0 ++ name ∷ [], s.1 ∙ ap (λ l. l ++ name ∷ []) o.1)
  still_first (inr (inl s)) o = (o.0, s.2 ∙ o.1)
  still_first (inr (inr s)) o = (o.0, s.2 ∙ o.1)

  pub walk_far : Sorts name (is_some block) found lost finds loses → IsWalked stored root more later finds loses
  walk_far sorts = record {
    begun = covers root h.begun;
    next = λ q r m l. elim ((sees q).0 m) [ inl o ↦ covers r (h.next q r o l) | inr e ↦ inr (waits_now r (inr (linked r (subst (λ x. LeadsTo stored x r) e l)))) ];
    stepped = all_covered (LeadsFar stored root) h.stepped further;
    valid = all_covered AreCidParts h.valid valid_link;
    finds = found_now sorts;
    loses = lost_now sorts;
    first = inr (λ t. elim h.first [ inl b ↦ first_of sorts b.0 (tail_nil waiting b.1) t | inr f ↦ still_first sorts (f t) ]);
  }

-- ---- the end

pub walk_over : (stored : Stored) (root : CidParts) (seen waiting found lost : List CidParts) → waiting ≡ [] → IsWalked stored root seen waiting found lost → ListsReachable stored root found × ListsLost stored root lost × ((q : CidParts) → LeadsFar stored root q → Among q seen)
walk_over stored root seen waiting found lost none h = (
  record {
    lists = all_listed (IsThere stored) found h.finds;
    first = λ k. elim h.first [ inl b ↦ absurd (cc (sym none ∙ b.1)) | inr f ↦ f k ];
  },
  all_listed (IsLost stored) lost h.loses,
  λ q far. by far.0 q far.1,
)
  where
    covered : (q : CidParts) → Covers seen waiting q → Among q seen
    covered q (inl m) = m
    covered q (inr w) = absurd (subst (Among q) none w)

    by : (n : ℕ) (q : CidParts) → IsStepsFrom stored root n q → Among q seen
    by zero q e = subst (λ x. Among x seen) (sym e) (covered root h.begun)
    by (suc n) q s = covered q (h.next s.0 q (by n s.0 s.1) s.2)

    all_listed : (P : CidParts → Type 0) (names : List CidParts) → Lists (λ q. Among q seen × P q) names → Lists (λ q. P q × LeadsFar stored root q) names
    all_listed P names l = record {
      all = λ q. (λ m. let k = (l.all q).0 m in (k.1, h.stepped q (inl k.0)), λ r. (l.all q).1 (by r.1.0 q r.1.1, r.0));
      once = l.once;
    }

-- no link leads on from a name under which nothing is
pub none_found : (stored : Stored) (root : CidParts) → IsLost stored root → ListsReachable stored root []
none_found stored root gone = record {
  lists = record { all = λ q. (λ m. absurd m, λ r. absurd (elsewhere r.1.0 q r.1.1 r.0)); once = tt };
  first = λ k. let clash : true ≡ false = sym k ∙ ap is_some gone.0 in absurd (cc clash);
}
  where
    no_links : (all : List (List ℕ)) → NamesLinks stored root all → ⊥
    no_links all h = elim h.1 [
      | inl s ↦ (let clash : None ≡ Some h.0 = sym gone.0 ∙ s in absurd (cc clash))
      | inr s ↦ gone.1 s.1
    ]

    by : (n : ℕ) (q r : CidParts) → IsStepsFrom stored root n q → LeadsTo stored q r → ⊥
    by zero q r e l = no_links l.1.0 (subst (λ x. NamesLinks stored x l.1.0) e l.1.1)
    by (suc n) q r s l = by n s.0 q s.1 s.2

    elsewhere : (n : ℕ) (q : CidParts) → IsStepsFrom stored root n q → IsThere stored q → ⊥
    elsewhere zero q e k = let clash : true ≡ false = sym k ∙ ap (λ x. is_some (stored x)) e ∙ ap is_some gone.0 in absurd (cc clash)
    elsewhere (suc n) q s k = by n s.0 q s.1 s.2

-- ---- the calls

map_some : {X Y : Type 0} (f : X → Y) (o : Option X) → is_some (option_map f o) ≡ is_some o
map_some f None = refl
map_some f (Some x) = refl

-- the next walk, after a name was seen and listed, and its links were pushed
module _ (name : CidParts) (block : Option (List ℕ)) (old seen mid : Walk) (later : Vec CidParts Global) (links : List CidParts) where
  abbrev visited_walk : Walk
  visited_walk = record { alloc = mid.alloc; seen = mid.seen; waiting = later; found = mid.found; lost = mid.lost }

  visited_name : ((stored : Stored) → stored name ≡ block → AreLinksOf (NamesLinks stored name) links) → Sees name old seen → SortsOut name (is_some block) seen mid → PushesAll (reverse links) mid.waiting.items later.items → Visits name block old visited_walk
  visited_name listed sees sorted pushes stored root at h =
      let waits : mid.waiting.items ≡ old.waiting.items = ap (λ (v : Vec CidParts Global). v.items) (sorted.waiting ∙ sees.waiting) in
      walk_far stored root name block at old.seen.keys old.waiting.items old.found.items old.lost.items h.0 h.1 mid.seen.keys later.items mid.found.items mid.lost.items links
      (subst (λ (s : BTreeSet CidParts). (q : CidParts) → Among q s.keys ↔ (Among q old.seen.keys ⊎ (q ≡ name))) (sym sorted.seen) sees.seen)
      (subst (λ w. PushesAll (reverse links) w later.items) waits pushes)
      (listed stored at)
      (subst (λ (v : Vec CidParts Global). Sorts name (is_some block) v.items old.lost.items mid.found.items mid.lost.items) sees.found (subst (λ (v : Vec CidParts Global). Sorts name (is_some block) seen.found.items v.items mid.found.items mid.lost.items) sees.lost sorted.sorts))

  pub visited : {E : Type 0} (r : Result (Unit {0}) E) (turned : List CidParts) (b : Bool) → ((stored : Stored) → stored name ≡ block → AreLinksOf (NamesLinks stored name) links) → Sees name old seen → b ≡ is_some block → SortsOut name b seen mid → turned ≡ reverse links
      → OnOk r (PushesAll turned mid.waiting.items later.items) → OnOk r (Visits name block old visited_walk)
  visited (Err e) turned b listed sees is sorted turns pushes = tt
  visited (Ok x) turned b listed sees is sorted turns pushes =
      visited_name listed sees (subst (λ y. SortsOut name y seen mid) is sorted) (subst (λ ls. PushesAll ls mid.waiting.items later.items) turns pushes)

  pub visited_seen : {E : Type 0} (r : Result (Unit {0}) E) (b : Bool) → Sees name old seen → SortsOut name b seen mid → OnOk r (SeesAlso name old visited_walk)
  visited_seen (Err e) b sees sorted = tt
  visited_seen (Ok x) b sees sorted = subst (λ (s : BTreeSet CidParts). (q : CidParts) → Among q s.keys ↔ (Among q old.seen.keys ⊎ (q ≡ name))) (sym sorted.seen) sees.seen

pub is_there_now : {X Y : Type 0} (f : X → Y) (o : Option X) (b : Bool) → b ≡ is_some o → b ≡ is_some (option_map f o)
is_there_now f o b e = e ∙ sym (map_some f o)

-- ---- names whose links are known

pub known_bytes : (o : Option Verdict) (stored : Stored) (name : CidParts) (b : List ℕ) → stored name ≡ Some b → MatchOption o (HasKnownLinks name.codec b) (HidesLinks name.codec b) → MatchOption o (KnowsLinks stored name) (HidesLinksUnder stored name)
known_bytes None stored name b at h = λ c is. subst (HasKnownLinks name.codec) (one_bytes stored name b c (inl at) is) h
known_bytes (Some v) stored name b at h = (b, inl at, h)

pub known_inside : (o : Option Verdict) (stored : Stored) (name : CidParts) → stored name ≡ None → IsInline name → MatchOption o (HasKnownLinks name.codec name.digest) (HidesLinks name.codec name.digest) → MatchOption o (KnowsLinks stored name) (HidesLinksUnder stored name)
known_inside None stored name free i h = λ c is. subst (HasKnownLinks name.codec) (one_bytes stored name name.digest c (inr (free, i, refl)) is) h
known_inside (Some v) stored name free i h = (name.digest, inr (free, i, refl), h)

-- a property of the names seen before holds of those seen now, if it holds of the new one
pub all_seen : (P : CidParts → Type 0) (name : CidParts) (old new : Walk) → ((q : CidParts) → Among q old.seen.keys → P q) → P name → SeesAlso name old new → (q : CidParts) → Among q new.seen.keys → P q
all_seen P name old new h is sees q m = elim ((sees q).0 m) [ inl o ↦ h q o | inr e ↦ subst P (sym e) is ]

pub leads_next : (stored : Stored) (root name : CidParts) (walk : Walk) → WalksAt stored root name walk → LeadsFar stored root name
leads_next stored root name walk at = at.1.stepped name (inr (push_among name walk.waiting.items name (inr refl)))
