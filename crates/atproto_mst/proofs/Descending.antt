-- What a walk down two trees leaves of them has all their changes.
use Rattle.std.proofs.Common.{◌≡◌, ◌⊎◌, inl, inr, ℕ, zero, suc, Bool, true, false, List, [], ◌∷◌, ◌++◌, map, append_assoc, append-nil, refl, sym, ap, ◌∙◌, subst, Option, Some, None, bytes_eq}
use Rattle.std.specs.Prelude.{if◌then◌else◌, ◌&&◌, ⊤}
use Rattle.std.specs.List.{AllByRecursion}
use Rattle.std.proofs.lemmas.Slice.Eq.{bytes_eq-Decides}
use Rattle.ipld_tree.specs.Cid.{CidParts}
use Rattle.ipld_links.specs.Sets.{Among}
use Rattle.ipld_links.specs.Reaching.{Stored}
use Rattle.atproto_mst.specs.Keys.{Entry, ComesBefore, Rise}
use Rattle.atproto_mst.specs.Nodes.{NodeRow, NodeParts, IsNodeAt, key_of_row}
use Rattle.atproto_mst.specs.Walks.{WalksLink, WalksRows, WalksNode, WalksTree}
use Rattle.atproto_mst.specs.Finding.{lookup}
use Rattle.atproto_mst.specs.Changes.{Changed, IsChange, AreChanges}
use Rattle.atproto_mst.specs.Levels.{LevelItem, an_entry, a_link, link_items, row_items, node_items, link_names, OpensItems, OpensIf, DropsShared, StepsDown}
use Rattle.atproto_mst.proofs.Agreeing.{one_walk}
use Rattle.atproto_mst.proofs.Changing.{before_trans}
use Rattle.atproto_mst.proofs.Seeking.{Below, not_same, other_first}

-- ---- the entries of items

abbrev pub Shows : (CidParts → List Entry → Type 0) → LevelItem → List Entry → Type 0
Shows W (an_entry e) es = es ≡ e ∷ []
Shows W (a_link name) es = W name es

-- the entries of items, if W relates each link to its entries
abbrev pub Lists : (CidParts → List Entry → Type 0) → List LevelItem → List Entry → Type 0
Lists W [] es = es ≡ []
Lists W (x ∷ xs) es = (now more : List Entry) × Shows W x now × Lists W xs more × (es ≡ now ++ more)

lists_joined : (W : CidParts → List Entry → Type 0) (xs ys : List LevelItem) (es fs : List Entry) → Lists W xs es → Lists W ys fs → Lists W (xs ++ ys) (es ++ fs)
lists_joined W [] ys es fs h k = subst (λ l. Lists W ys (l ++ fs)) (sym h) k
lists_joined W (x ∷ xs) ys es fs (now, more, one, rest, is) k =
    (now, more ++ fs, one, lists_joined W xs ys more fs rest k, ap (λ l. l ++ fs) is ∙ append_assoc now more fs)

lists_one : (W : CidParts → List Entry → Type 0) (x : LevelItem) (es : List Entry) → Shows W x es → Lists W (x ∷ []) es
lists_one W x es h = (es, [], h, refl, sym (append-nil es))

module _ (V W : CidParts → List Entry → Type 0) (f : (name : CidParts) (es : List Entry) → V name es → W name es) where
  link_lists : (l : Option CidParts) (es : List Entry) → WalksLink V l es → Lists W (link_items l) es
  link_lists None es h = h
  link_lists (Some name) es h = lists_one W (a_link name) es (f name es h.0)

  rows_list : (rows : List NodeRow) (previous : List ℕ) (es : List Entry) → WalksRows V previous rows es → Lists W (row_items previous rows) es
  rows_list [] previous es h = h
  rows_list (r ∷ rs) previous es (shares, (below, more, link, rest, is)) = (
    (key_of_row previous r, r.value) ∷ [],
    below ++ more,
    refl,
    lists_joined W (link_items r.after) (row_items (key_of_row previous r) rs) below more (link_lists r.after below link) (rows_list rs (key_of_row previous r) more rest),
    is,
  )

  node_lists : (p : NodeParts) (es : List Entry) → WalksNode V p es → Lists W (node_items p) es
  node_lists p es (below, more, link, rows, is) =
      subst (Lists W (node_items p)) (sym is) (lists_joined W (link_items p.left) (row_items [] p.rows) below more (link_lists p.left below link) (rows_list p.rows [] more rows))

-- the entries of a tree
abbrev pub Holds : Stored → CidParts → List Entry → Type 0
Holds stored name es = (m : ℕ) × WalksTree m stored name es

one_holding : (stored : Stored) (name : CidParts) (es fs : List Entry) → Holds stored name es → Holds stored name fs → es ≡ fs
one_holding stored name es fs (m, h) (n, k) = one_walk stored m n name es fs h k

-- ---- keys that rise, each before all after it

abbrev AllAfter : List ℕ → List Entry → Type 0
AllAfter k es = AllByRecursion (λ e. Below k e.0) es

abbrev pub RiseAll : List Entry → Type 0
RiseAll [] = ⊤
RiseAll (e ∷ es) = AllAfter e.0 es × RiseAll es

all_after : (k : List ℕ) (es : List Entry) → ComesBefore k es → Rise es → AllAfter k es
all_after k [] b r = tt
all_after k (e ∷ es) b r = (b, all_after k es (before_trans k e.0 es b r.0) r.1)

pub rise_all : (es : List Entry) → Rise es → RiseAll es
rise_all [] r = tt
rise_all (e ∷ es) r = (all_after e.0 es r.0 r.1, rise_all es r.1)

first_after : (k : List ℕ) (es : List Entry) → AllAfter k es → ComesBefore k es
first_after k [] h = tt
first_after k (e ∷ es) h = h.0

pub all_rise : (es : List Entry) → RiseAll es → Rise es
all_rise [] r = tt
all_rise (e ∷ es) r = (first_after e.0 es r.0, all_rise es r.1)

after_right : (k : List ℕ) (now more : List Entry) → AllAfter k (now ++ more) → AllAfter k more
after_right k [] more h = h
after_right k (e ∷ now) more h = after_right k now more h.1

rise_right : (now more : List Entry) → RiseAll (now ++ more) → RiseAll more
rise_right [] more r = r
rise_right (e ∷ now) more r = rise_right now more r.1

abbrev AfterToo : List Entry → List Entry → Type 0
AfterToo es fs = (k : List ℕ) → AllAfter k es → AllAfter k fs

after_kept : (now more less : List Entry) → AfterToo more less → AfterToo (now ++ more) (now ++ less)
after_kept [] more less f k h = f k h
after_kept (e ∷ now) more less f k h = (h.0, after_kept now more less f k h.1)

rise_kept : (now more less : List Entry) → RiseAll (now ++ more) → AfterToo more less → RiseAll less → RiseAll (now ++ less)
rise_kept [] more less r f s = s
rise_kept (e ∷ now) more less r f s = (after_kept now more less f e.0 r.0, rise_kept now more less r.1 f s)

-- ---- records of joined entries

none_after : (k : List ℕ) (es : List Entry) → AllAfter k es → lookup k es ≡ None
none_after k [] h = refl
none_after k (e ∷ es) h = other_first k e.0 e.1 es (λ is. not_same k e.0 h.0 (sym is)) ∙ none_after k es h.1

found_by : (b : Bool) (u v : CidParts) (x y : Option CidParts) → (if b then Some u else x) ≡ Some v → (x ≡ Some v → y ≡ Some v) → (if b then Some u else y) ≡ Some v
found_by true u v x y h f = h
found_by false u v x y h f = f h

-- a record that the first entries have is the record of all
found_first : (k : List ℕ) (v : CidParts) (now more : List Entry) → lookup k now ≡ Some v → lookup k (now ++ more) ≡ Some v
found_first k v [] more h = absurd (cc h)
found_first k v (e ∷ now) more h = found_by (bytes_eq e.0 k) e.1 v (lookup k now) (lookup k (now ++ more)) h (found_first k v now more)

none_by : (b : Bool) (u : CidParts) (x y z : Option CidParts) → (if b then Some u else x) ≡ None → (x ≡ None → y ≡ z) → (if b then Some u else y) ≡ z
none_by true u x y z h f = absurd (cc h)
none_by false u x y z h f = f h

-- if the first entries lack the key, the record is that of the others
none_first : (k : List ℕ) (now more : List Entry) → lookup k now ≡ None → lookup k (now ++ more) ≡ lookup k more
none_first k [] more h = refl
none_first k (e ∷ now) more h = none_by (bytes_eq e.0 k) e.1 (lookup k now) (lookup k (now ++ more)) (lookup k more) h (none_first k now more)

-- if the first entries have the key, the others lack it
apart : (k : List ℕ) (v : CidParts) (now more : List Entry) → RiseAll (now ++ more) → lookup k now ≡ Some v → lookup k more ≡ None
apart k v [] more r h = absurd (cc h)
apart k v (e ∷ now) more r h = by (bytes_eq e.0 k) refl h (apart k v now more r.1)
  where
    by : (b : Bool) → bytes_eq e.0 k ≡ b → (if b then Some e.1 else lookup k now) ≡ Some v → (lookup k now ≡ Some v → lookup k more ≡ None) → lookup k more ≡ None
    by true is q f = none_after k more (subst (λ x. AllAfter x more) ((bytes_eq-Decides e.0 k).0 is) (after_right e.0 now more r.0))
    by false is q f = f q

-- ---- what is left where trees are dropped

module _ (W : CidParts → List Entry → Type 0) (dropped : List CidParts) where
  -- the key is in a tree that is dropped
  abbrev IsDropped : List CidParts → List ℕ → Type 0
  IsDropped names k = (name : CidParts) × Among name dropped × Among name names × ((l : List Entry) × W name l × ((v : CidParts) × (lookup k l ≡ Some v)))

  -- of these entries, which have trees of these names, the others are left
  record Leaves (names : List CidParts) (es less : List Entry) : Type 0 where
    following : AfterToo es less
    rise : RiseAll less
    none : (k : List ℕ) → lookup k es ≡ None → lookup k less ≡ None
    each : (k : List ℕ) → (lookup k es ≡ lookup k less) ⊎ IsDropped names k
    gone : (k : List ℕ) (name : CidParts) (l : List Entry) (v : CidParts) → Among name dropped → Among name names → W name l → lookup k l ≡ Some v
        → (lookup k es ≡ Some v) × (lookup k less ≡ None)

  leaves_none : Leaves [] [] []
  leaves_none = record { following = λ k h. h; rise = tt; none = λ k h. h; each = λ k. inl refl; gone = λ k name l v d m. absurd m }

  module _ (now more less : List Entry) (r : RiseAll (now ++ more)) (names wider : List CidParts) (rest : Leaves names more less) where
    other_record : (k : List ℕ) (u v : CidParts) → lookup k now ≡ Some u → lookup k more ≡ Some v → ⊥
    other_record k u v h q = let none = apart k u now more r h in absurd (cc (none, q))

    dropped_wider : ((q : CidParts) → Among q names → Among q wider) → (k : List ℕ) → IsDropped names k → IsDropped wider k
    dropped_wider f k (name, d, m, more) = (name, d, f name m, more)

    -- the first stay
    leaves_first : ((q : CidParts) → Among q names → Among q wider) → ((q : CidParts) → Among q dropped → Among q wider → Among q names) → Leaves wider (now ++ more) (now ++ less)
    leaves_first f g = record {
      following = after_kept now more less rest.following;
      rise = rise_kept now more less r rest.following rest.rise;
      none = λ k h. none_by_record k (lookup k now) refl h;
      each = λ k. each_by k (lookup k now) refl;
      gone = λ k name l v d m w h. gone_by k name l v (rest.gone k name l v d (g name d m) w h) (lookup k now) refl;
    }
      where
        none_by_record : (k : List ℕ) (o : Option CidParts) → lookup k now ≡ o → lookup k (now ++ more) ≡ None → lookup k (now ++ less) ≡ None
        none_by_record k (Some v) is h = let found = found_first k v now more is in absurd (cc (h, found))
        none_by_record k None is h = none_first k now less is ∙ rest.none k (sym (none_first k now more is) ∙ h)

        each_by : (k : List ℕ) (o : Option CidParts) → lookup k now ≡ o → (lookup k (now ++ more) ≡ lookup k (now ++ less)) ⊎ IsDropped wider k
        each_by k (Some v) is = inl (found_first k v now more is ∙ sym (found_first k v now less is))
        each_by k None is = elim (rest.each k) [
          | inl e ↦ inl (none_first k now more is ∙ e ∙ sym (none_first k now less is))
          | inr d ↦ inr (dropped_wider f k d)
        ]

        gone_by : (k : List ℕ) (name : CidParts) (l : List Entry) (v : CidParts) → (lookup k more ≡ Some v) × (lookup k less ≡ None) → (o : Option CidParts) → lookup k now ≡ o
            → (lookup k (now ++ more) ≡ Some v) × (lookup k (now ++ less) ≡ None)
        gone_by k name l v h (Some u) is = absurd (other_record k u v is h.0)
        gone_by k name l v h None is = (none_first k now more is ∙ h.0, none_first k now less is ∙ h.1)

    -- the first are dropped
    leaves_rest : (name : CidParts) → Among name dropped → W name now → ((l : List Entry) → W name l → l ≡ now) → Leaves (name ∷ names) (now ++ more) less
    leaves_rest name d w one = record {
      following = λ k h. rest.following k (after_right k now more h);
      rise = rest.rise;
      none = λ k h. none_by_record k (lookup k now) refl h;
      each = λ k. each_by k (lookup k now) refl;
      gone = λ k other l v in_dropped m x h. gone_by k other l v in_dropped m x h (lookup k now) refl;
    }
      where
        none_by_record : (k : List ℕ) (o : Option CidParts) → lookup k now ≡ o → lookup k (now ++ more) ≡ None → lookup k less ≡ None
        none_by_record k (Some v) is h = let found = found_first k v now more is in absurd (cc (h, found))
        none_by_record k None is h = rest.none k (sym (none_first k now more is) ∙ h)

        each_by : (k : List ℕ) (o : Option CidParts) → lookup k now ≡ o → (lookup k (now ++ more) ≡ lookup k less) ⊎ IsDropped (name ∷ names) k
        each_by k (Some v) is = inr (name, d, inl refl, (now, w, (v, is)))
        each_by k None is = elim (rest.each k) [
          | inl e ↦ inl (none_first k now more is ∙ e)
          | inr (other, in_dropped, m, l) ↦ inr (other, in_dropped, inr m, l)
        ]

        gone_by : (k : List ℕ) (other : CidParts) (l : List Entry) (v : CidParts) → Among other dropped → Among other (name ∷ names) → W other l → lookup k l ≡ Some v
            → (o : Option CidParts) → lookup k now ≡ o → (lookup k (now ++ more) ≡ Some v) × (lookup k less ≡ None)
        gone_by k other l v in_dropped (inl e) x h o is =
            let this : lookup k now ≡ Some v = ap (lookup k) (sym (one l (subst (λ q. W q l) e x))) ∙ h in
            (found_first k v now more this, rest.none k (apart k v now more r this))
        gone_by k other l v in_dropped (inr m) x h (Some u) is = let q = rest.gone k other l v in_dropped m x h in absurd (other_record k u v is q.0)
        gone_by k other l v in_dropped (inr m) x h None is = let q = rest.gone k other l v in_dropped m x h in (none_first k now more is ∙ q.0, q.1)

-- ---- a step down

module _ (stored held : Stored) (agree : (name : CidParts) (p q : NodeParts) → IsNodeAt stored name p → IsNodeAt held name q → p ≡ q) where
  link_opened : (name : CidParts) (p : NodeParts) (es : List Entry) → IsNodeAt stored name p → Holds held name es → Lists (Holds held) (node_items p) es
  link_opened name p es at (zero, h) = absurd h
  link_opened name p es at (suc m, (q, there, walk)) =
      node_lists (WalksTree m held) (Holds held) (λ n fs h. (m, h)) p es (subst (λ x. WalksNode (WalksTree m held) x es) (sym (agree name p q at there)) walk)

  abbrev Left : List CidParts → List LevelItem → List LevelItem → List Entry → Type 0
  Left dropped xs ys es = (less : List Entry) × Lists (Holds held) ys less × Leaves (Holds held) dropped (link_names xs) es less

  opened : (dropped : List CidParts) (xs ys : List LevelItem) (es : List Entry) → Lists (Holds held) xs es → RiseAll es → OpensItems stored dropped xs ys → Left dropped xs ys es
  opened dropped [] ys es is r none =
      ([], subst (λ l. Lists (Holds held) l []) (sym none) refl, subst (λ l. Leaves (Holds held) dropped [] l []) (sym is) (leaves_none (Holds held) dropped))
  opened dropped (an_entry e ∷ xs) ys es (now, more, one, rest, is) r (first, others, this, opens, all) =
      let r = subst RiseAll is r in
      let (less, lists, leaves) = opened dropped xs others more rest (rise_right now more r) opens in (
        now ++ less,
        subst (λ l. Lists (Holds held) l (now ++ less)) (sym all)
            (lists_joined (Holds held) first others now less (subst (λ l. Lists (Holds held) l now) (sym this) (lists_one (Holds held) (an_entry e) now one)) lists),
        subst (λ l. Leaves (Holds held) dropped (link_names xs) l (now ++ less)) (sym is)
            (leaves_first (Holds held) dropped now more less r (link_names xs) (link_names xs) leaves (λ q m. m) (λ q d m. m)),
      )
  opened dropped (a_link name ∷ xs) ys es (now, more, one, rest, is) r (first, others, inl (d, this), opens, all) =
      let r = subst RiseAll is r in
      let (less, lists, leaves) = opened dropped xs others more rest (rise_right now more r) opens in (
        less,
        subst (λ l. Lists (Holds held) l less) (sym (all ∙ ap (λ l. l ++ others) this)) lists,
        subst (λ l. Leaves (Holds held) dropped (name ∷ link_names xs) l less) (sym is)
            (leaves_rest (Holds held) dropped now more less r (link_names xs) [] leaves name d one (λ l h. one_holding held name l now h one)),
      )
  opened dropped (a_link name ∷ xs) ys es (now, more, one, rest, is) r (first, others, inr (not, (p, at, this)), opens, all) =
      let r = subst RiseAll is r in
      let (less, lists, leaves) = opened dropped xs others more rest (rise_right now more r) opens in (
        now ++ less,
        subst (λ l. Lists (Holds held) l (now ++ less)) (sym all)
            (lists_joined (Holds held) first others now less (subst (λ l. Lists (Holds held) l now) (sym this) (link_opened name p now at one)) lists),
        subst (λ l. Leaves (Holds held) dropped (name ∷ link_names xs) l (now ++ less)) (sym is)
            (leaves_first (Holds held) dropped now more less r (link_names xs) (name ∷ link_names xs) leaves (λ q m. inr m) (λ q d m. elim m [
              | inl e ↦ absurd (not (subst (λ x. Among x dropped) e d))
              | inr m ↦ m
            ])),
      )

  stays : (xs ys : List LevelItem) (es : List Entry) → Lists (Holds held) xs es → RiseAll es → ys ≡ xs → Left [] xs ys es
  stays xs ys es l r is = (
    es,
    subst (λ zs. Lists (Holds held) zs es) (sym is) l,
    record { following = λ k h. h; rise = r; none = λ k h. h; each = λ k. inl refl; gone = λ k name fs v d. absurd d },
  )

  opened_or_stays : (dropped : List CidParts) (xs ys : List LevelItem) (es : List Entry) → Lists (Holds held) xs es → RiseAll es
      → OpensItems stored dropped xs ys ⊎ ((dropped ≡ []) × (ys ≡ xs)) → Left dropped xs ys es
  opened_or_stays dropped xs ys es l r (inl o) = opened dropped xs ys es l r o
  opened_or_stays dropped xs ys es l r (inr (none, is)) = subst (λ d. Left d xs ys es) (sym none) (stays xs ys es l r is)

-- ---- the changes

module _ (es fs less others : List Entry) (same : (k : List ℕ) → ((lookup k es ≡ lookup k less) × (lookup k fs ≡ lookup k others)) ⊎ ((lookup k es ≡ lookup k fs) × (lookup k less ≡ lookup k others))) where
  change_of_all : (c : Changed) → IsChange less others c → IsChange es fs c
  change_of_all c h = elim (same c.0) [
    | inl (a, b) ↦ (h.0 ∙ sym a, h.1 ∙ sym b, h.2)
    | inr (a, b) ↦ absurd (h.2 (h.0 ∙ b ∙ sym h.1))
  ]

  each_of_all : (cs : List Changed) → AllByRecursion (IsChange less others) cs → AllByRecursion (IsChange es fs) cs
  each_of_all [] h = tt
  each_of_all (c ∷ cs) h = (change_of_all c h.0, each_of_all cs h.1)

  changes_of_all : (cs : List Changed) → AreChanges less others cs → AreChanges es fs cs
  changes_of_all cs h = record {
    rise = h.rise;
    each = each_of_all cs h.each;
    all = λ k differ. elim (same k) [
      | inl (a, b) ↦ h.all k (λ e. differ (a ∙ e ∙ sym b))
      | inr (a, b) ↦ absurd (differ a)
    ];
  }

module _ (W : CidParts → List Entry → Type 0) (dropped names wider : List CidParts) (common : (q : CidParts) → Among q dropped → Among q names × Among q wider)
    (es fs less others : List Entry) (one : Leaves W dropped names es less) (two : Leaves W dropped wider fs others) where
  dropped_of_both : (k : List ℕ) (name : CidParts) (l : List Entry) (v : CidParts) → Among name dropped → W name l → lookup k l ≡ Some v
      → (lookup k es ≡ lookup k fs) × (lookup k less ≡ lookup k others)
  dropped_of_both k name l v d w h =
      let a = one.gone k name l v d (common name d).0 w h in
      let b = two.gone k name l v d (common name d).1 w h in
      (a.0 ∙ sym b.0, a.1 ∙ sym b.1)

  same_changes : (k : List ℕ) → ((lookup k es ≡ lookup k less) × (lookup k fs ≡ lookup k others)) ⊎ ((lookup k es ≡ lookup k fs) × (lookup k less ≡ lookup k others))
  same_changes k = elim (one.each k) [
    | inl a ↦ elim (two.each k) [
      | inl b ↦ inl (a, b)
      | inr (name, d, m, (l, w, (v, h))) ↦ inr (dropped_of_both k name l v d w h)
    ]
    | inr (name, d, m, (l, w, (v, h))) ↦ inr (dropped_of_both k name l v d w h)
  ]

-- what is left of both has all their changes
pub record Tells (held : Stored) (es fs : List Entry) (xs ys : List LevelItem) : Type 0 where
  pub less : List Entry
  pub others : List Entry
  pub old : Lists (Holds held) xs less
  pub new : Lists (Holds held) ys others
  pub old_rise : RiseAll less
  pub new_rise : RiseAll others
  pub all : (cs : List Changed) → AreChanges less others cs → AreChanges es fs cs

-- a step as each level takes it
abbrev pub Steps : Stored → List LevelItem → List LevelItem → List LevelItem → List LevelItem → Type 0
Steps stored xs ys below beside = (dropped : List CidParts)
    × ((q : CidParts) → Among q dropped → Among q (link_names xs) × Among q (link_names ys))
    × (OpensItems stored dropped xs below ⊎ ((dropped ≡ []) × (below ≡ xs))) × (OpensItems stored dropped ys beside ⊎ ((dropped ≡ []) × (beside ≡ ys)))

steps_by : (stored : Stored) (a b : Bool) (xs ys below beside : List LevelItem) (dropped : List CidParts) → DropsShared (a && b) (link_names xs) (link_names ys) dropped
    → OpensIf stored dropped a xs below → OpensIf stored dropped b ys beside → Steps stored xs ys below beside
steps_by stored true true xs ys below beside dropped common one two = (dropped, λ q m. (common q).0 m, inl one, inl two)
steps_by stored true false xs ys below beside dropped none one two = (dropped, λ q m. absurd (subst (Among q) none m), inl one, inr (none, two))
steps_by stored false true xs ys below beside dropped none one two = (dropped, λ q m. absurd (subst (Among q) none m), inr (none, one), inl two)
steps_by stored false false xs ys below beside dropped none one two = (dropped, λ q m. absurd (subst (Among q) none m), inr (none, one), inr (none, two))

pub steps_of : {asked : Bool × Bool} (stored : Stored) (xs ys below beside : List LevelItem) → StepsDown stored asked xs ys below beside → Steps stored xs ys below beside
steps_of {asked} stored xs ys below beside s = steps_by stored asked.0 asked.1 xs ys below beside s.dropped s.drops s.one s.other

pub tells_below : (stored held : Stored) → ((name : CidParts) (p q : NodeParts) → IsNodeAt stored name p → IsNodeAt held name q → p ≡ q)
    → (es fs : List Entry) (xs ys below beside : List LevelItem) → Steps stored xs ys below beside → Tells held es fs xs ys → Tells held es fs below beside
tells_below stored held agree es fs xs ys below beside (dropped, common, one, two) t =
    let (less, old, leaves) = opened_or_stays stored held agree dropped xs below t.less t.old t.old_rise one in
    let (others, new, leave) = opened_or_stays stored held agree dropped ys beside t.others t.new t.new_rise two in
    record {
      less = less;
      others = others;
      old = old;
      new = new;
      old_rise = leaves.rise;
      new_rise = leave.rise;
      all = λ cs h. t.all cs (changes_of_all t.less t.others less others
          (same_changes (Holds held) dropped (link_names xs) (link_names ys) common t.less t.others less others leaves leave) cs h);
    }

only_entries : (W : CidParts → List Entry → Type 0) (es fs : List Entry) → Lists W (map an_entry es) fs → fs ≡ es
only_entries W [] fs h = h
only_entries W (e ∷ es) fs (now, more, one, rest, is) = is ∙ ap (λ l. l ++ more) one ∙ ap (λ l. e ∷ l) (only_entries W es more rest)

-- at the end there are no links
pub told : (held : Stored) (es fs es_left fs_left : List Entry) (xs ys : List LevelItem) → Tells held es fs xs ys → xs ≡ map an_entry es_left → ys ≡ map an_entry fs_left
    → (cs : List Changed) → (Rise es_left → Rise fs_left → AreChanges es_left fs_left cs) → AreChanges es fs cs
told held es fs es_left fs_left xs ys t is_old is_new cs h =
    let one = only_entries (Holds held) es_left t.less (subst (λ l. Lists (Holds held) l t.less) is_old t.old) in
    let two = only_entries (Holds held) fs_left t.others (subst (λ l. Lists (Holds held) l t.others) is_new t.new) in
    t.all cs (subst (λ l. AreChanges l t.others cs) (sym one) (subst (λ l. AreChanges es_left l cs) (sym two)
    (h (all_rise es_left (subst RiseAll one t.old_rise)) (all_rise fs_left (subst RiseAll two t.new_rise)))))

-- at the beginning both trees are
pub tells_trees : (held : Stored) (es fs : List Entry) (old new : CidParts) → Holds held old es → Holds held new fs → Rise es → Rise fs → Tells held es fs (a_link old ∷ []) (a_link new ∷ [])
tells_trees held es fs old new h k r s = record {
  less = es;
  others = fs;
  old = lists_one (Holds held) (a_link old) es h;
  new = lists_one (Holds held) (a_link new) fs k;
  old_rise = rise_all es r;
  new_rise = rise_all fs s;
  all = λ cs a. a;
}
