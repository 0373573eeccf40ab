-- What a walk gathers, and where it stops, part by part.
use Rattle.std.proofs.Common.{◌≡◌, ◌⊎◌, inl, inr, ℕ, zero, suc, ◌+◌, ◌-◌, ◌<◌, ◌≤◌, Bool, true, false, ◌&&◌, add-one, get_or, length, take, drop, drop-cons, map, List, [], ◌∷◌, ◌++◌, append_assoc, append-nil, refl, sym, ap, ◌∙◌, subst, arith, Option, None, Vec}
use Rattle.std.proofs.lemmas.List.{drop_all, length-map, length-append, take-append-le, take_all}
use Rattle.std.specs.Prelude.{Decides}
use Rattle.std.specs.declared.alloc.Global.{Global}
use Rattle.ipld_tree.specs.Cid.{CidParts}
use Rattle.ipld_links.specs.Reaching.{Stored}
use Rattle.atproto_mst.specs.Keys.{Entry}
use Rattle.atproto_mst.specs.Entries.{entry_of, entries}
use Rattle.atproto_mst.specs.Nodes.{NodeRow, NodeParts, IsNodeAt, key_of_row, row_told}
use Rattle.atproto_mst.specs.Walks.{WalksLink, WalksRows, WalksNode, WalksTree}
use Rattle.atproto_mst.specs.Stops.{IsStoredNamed, NodeFault, RowFault, ComeAfter, last_entry_key, StopsAfter, StopsInRows, StopsInNode, StopsWalk}
use Rattle.atproto_mst.specs.Gathering.{GathersEntries, AddsRow, key_after}
use Rattle.atproto_mst.specs.InLayers.{IsLayerRow, IfLinked, AreRowsOf, IsOfLayer, IsEmpty, IsRightBelow}
use Rattle.atproto_mst.specs.declared.entries.MstEntry.{MstEntry}
use Rattle.atproto_mst.specs.declared.error.MstError.{MstError}
use Rattle.atproto_mst.specs.declared.error.MstError.TheVariants.{OutOfMemory}
use Rattle.types_repository.specs.declared.repository.Entry.{Entry as Row}
use Rattle.atproto_mst.proofs.Nodes.{same_node_at}
use Rattle.atproto_mst.proofs.Rising.{first_after, joined_after, last_joined}

abbrev pub Found : Type 0
Found = Vec MstEntry Global

pub or_more : {A B C : Type 0} → (B → C) → A ⊎ B → A ⊎ C
or_more f (inl a) = inl a
or_more f (inr b) = inr (f b)

-- ---- a row

last_of_row : (r : NodeRow) (previous : List ℕ) (old new : Found) → AddsRow r previous old new → last_entry_key [] (entries new.items) ≡ key_of_row previous r
last_of_row r previous old new a = ap (last_entry_key []) a.all ∙ last_joined [] (entries old.items) ((key_of_row previous r, r.value) ∷ [])

last_of_gathered : (W : List Entry → Type 0) (old new : Found) (g : GathersEntries W old new) → last_entry_key [] (entries new.items) ≡ last_entry_key (last_entry_key [] (entries old.items)) g.found
last_of_gathered W old new g = ap (last_entry_key []) g.all ∙ last_joined [] (entries old.items) g.found

-- ---- rows

gathers_none : (W : List Entry → Type 0) (v : Found) → W [] → GathersEntries W v v
gathers_none W v h = record { found = []; walked = h; following = record { keys = tt; rise = tt; following = tt }; all = sym (append-nil (entries v.items)) }

pub gathers_no_link : (W : CidParts → List Entry → Type 0) (l : Option CidParts) → l ≡ None → (v : Found) → GathersEntries (WalksLink W l) v v
gathers_no_link W l h v = subst (λ x. GathersEntries (WalksLink W x) v v) (sym h) (gathers_none (WalksLink W None) v refl)

in_row : (a : List Entry) (e : Entry) (b c : List Entry) → ((a ++ (e ∷ [])) ++ b) ++ c ≡ a ++ (e ∷ (b ++ c))
in_row a e b c = simp append_assoc

gathers_row : (W : CidParts → List Entry → Type 0) (r : NodeRow) (rs : List NodeRow) (previous : List ℕ) (old mid late new : Found)
    → AddsRow r previous old mid → GathersEntries (WalksLink W r.after) mid late → GathersEntries (WalksRows W (key_of_row previous r) rs) late new → GathersEntries (WalksRows W previous (r ∷ rs)) old new
gathers_row W r rs previous old mid late new a g h = record {
  found = (key_of_row previous r, r.value) ∷ (g.found ++ h.found);
  walked = (a.row.shares, (g.found, h.found, g.walked, h.walked, refl));
  following =
      let row = last_of_row r previous old mid a in
      let below = last_of_gathered (WalksLink W r.after) mid late g ∙ ap (λ k. last_entry_key k g.found) row in
      first_after (last_entry_key [] (entries old.items)) (key_of_row previous r, r.value) (g.found ++ h.found) a.row.is_key a.row.following
      (joined_after (key_of_row previous r) g.found h.found (subst (λ k. ComeAfter k g.found) row g.following) (subst (λ k. ComeAfter k h.found) below h.following));
  all = h.all ∙ ap (λ x. x ++ h.found) (g.all ∙ ap (λ x. x ++ g.found) a.all) ∙ in_row (entries old.items) (key_of_row previous r, r.value) g.found h.found;
}

entries_taken : (n : ℕ) (es : List MstEntry) → entries (take n es) ≡ take n (entries es)
entries_taken zero es = refl
entries_taken (suc n) [] = refl
entries_taken (suc n) (e ∷ es) = ap (λ xs. entry_of e ∷ xs) (entries_taken n es)

-- a row's key keeps its place among the entries
pub key_kept : (W : List Entry → Type 0) (r : NodeRow) (previous : List ℕ) (old mid late : Found) → AddsRow r previous old mid → GathersEntries W mid late → key_after (length mid.items) late.items ≡ key_of_row previous r
key_kept W r previous old mid late a g =
    let here : length (entries mid.items) ≡ length mid.items = length-map mid.items entry_of in
    ap (last_entry_key []) (entries_taken (length mid.items) late.items
    ∙ ap (take (length mid.items)) g.all
    ∙ take-append-le (length mid.items) (entries mid.items) g.found (omega (arith, here))
    ∙ take_all (length mid.items) (entries mid.items) (omega (arith, here)))
    ∙ last_of_row r previous old mid a

pub still_there : (W : List Entry → Type 0) (mid late : Found) → GathersEntries W mid late → length mid.items ≤ length late.items
still_there W mid late g = omega (arith, length-map mid.items entry_of, length-map late.items entry_of, ap length g.all, length-append (entries mid.items) g.found)

-- A walk that goes on from these rows gives what the walk of all rows gives: its entries, and where
-- it stops.
pub record GoesOn (W : CidParts → List Entry → Type 0) (S : List ℕ → CidParts → MstError → Type 0) (first : Found) (all : List NodeRow)
    (found : Found) (key : List ℕ) (rest : List NodeRow) : Type 0 where
  pub walks : (new : Found) → GathersEntries (WalksRows W key rest) found new → GathersEntries (WalksRows W [] all) first new
  pub stops : (e : MstError) → StopsInRows W S (last_entry_key [] (entries found.items)) key rest e → StopsInRows W S (last_entry_key [] (entries first.items)) [] all e

module _ (W : CidParts → List Entry → Type 0) (S : List ℕ → CidParts → MstError → Type 0) (first : Found) (all : List NodeRow) where
  module _ (old : Found) (previous : List ℕ) (r : NodeRow) (rs : List NodeRow) (go : GoesOn W S first all old previous (r ∷ rs)) where
    pub stops_at_row : (e : MstError) → RowFault previous (last_entry_key [] (entries old.items)) r e → StopsInRows W S (last_entry_key [] (entries first.items)) [] all e
    stops_at_row e h = go.stops e (inl h)

    module _ (mid : Found) (a : AddsRow r previous old mid) where
      pub stops_after_row : (e : MstError) → StopsAfter W S (last_entry_key [] (entries mid.items)) r.after e → StopsInRows W S (last_entry_key [] (entries first.items)) [] all e
      stops_after_row e h = go.stops e (inr (a.row, inl (subst (λ k. StopsAfter W S k r.after e) (last_of_row r previous old mid a) h)))

      stops_later : (late : Found) → GathersEntries (WalksLink W r.after) mid late → (e : MstError) → StopsInRows W S (last_entry_key [] (entries late.items)) (key_of_row previous r) rs e
          → StopsInRows W S (last_entry_key [] (entries old.items)) previous (r ∷ rs) e
      stops_later late g e h =
          let row = last_of_row r previous old mid a in
          let following = last_of_gathered (WalksLink W r.after) mid late g ∙ ap (λ k. last_entry_key k g.found) row in
          inr (a.row, inr (g.found, g.walked, subst (λ k. ComeAfter k g.found) row g.following, subst (λ k. StopsInRows W S k (key_of_row previous r) rs e) following h))

      pub goes_after_row : (late : Found) → GathersEntries (WalksLink W r.after) mid late → GoesOn W S first all late (key_after (length mid.items) late.items) rs
      goes_after_row late g = subst (λ k. GoesOn W S first all late k rs) (sym (key_kept (WalksLink W r.after) r previous old mid late a g)) (record {
        walks = λ new h. go.walks new (gathers_row W r rs previous old mid late new a g h);
        stops = λ e h. go.stops e (stops_later late g e h);
      })

  pub goes_to_end : (found : Found) (key : List ℕ) → GoesOn W S first all found key [] → GathersEntries (WalksRows W [] all) first found
  goes_to_end found key go = go.walks found (gathers_none (WalksRows W key []) found refl)

-- rows in memory
pub row_next : (rows : List Row) (i : ℕ) (r : Row) → i < length rows → r ≡ get_or rows i r → map row_told (drop i rows) ≡ row_told r ∷ map row_told (drop (i + 1) rows)
row_next rows i r lt is = ap (map row_told) (drop-cons rows i r lt) ∙ ap (λ x. row_told x ∷ map row_told (drop (suc i) rows)) (sym is) ∙ ap (λ k. row_told r ∷ map row_told (drop k rows)) (sym (add-one i))

pub no_row_left : (rows : List Row) (i : ℕ) → length rows ≤ i → map row_told (drop i rows) ≡ []
no_row_left rows i le = ap (map row_told) (drop_all i rows le)

-- ---- whether rows are of a layer

pub both : (a b : Bool) → Decides (a && b) ((a ≡ true) × (b ≡ true))
both true b = (λ e. (refl, e), λ h. h.1)
both false b = (λ e. absurd (cc e), λ h. absurd (cc h.0))

pub all_three : (a b c : Bool) → Decides ((a && b) && c) ((a ≡ true) × (b ≡ true) × (c ≡ true))
all_three a b c = (λ e. (let k = (both (a && b) c).0 e in let l = (both a b).0 k.0 in (l.0, l.1, k.1)), λ h. (both (a && b) c).1 ((both a b).1 (h.0, h.1), h.2))

-- all rows are of the layer exactly if the rows so far fit, and the remaining rows are of it
pub record SettledBy (F : CidParts → Type 0) (n : ℕ) (all : List NodeRow) (fits : Bool) (key : List ℕ) (rest : List NodeRow) : Type 0 where
  pub on : AreRowsOf F n [] all → (fits ≡ true) × AreRowsOf F n key rest
  pub back : fits ≡ true → AreRowsOf F n key rest → AreRowsOf F n [] all

pub settled_after_row : (F : CidParts → Type 0) (n : ℕ) (all : List NodeRow) (fits row below next : Bool) (key : List ℕ) (r : NodeRow) (rs : List NodeRow) → SettledBy F n all fits key (r ∷ rs)
    → Decides row (IsLayerRow n key r) → Decides below (IfLinked F r.after) → Decides next ((fits ≡ true) × (row ≡ true) × (below ≡ true)) → SettledBy F n all next (key_of_row key r) rs
settled_after_row F n all fits row below next key r rs s is link step = record {
  on = λ h. (let k = s.on h in (step.1 (k.0, is.1 k.1.0, link.1 k.1.1), k.1.2));
  back = λ e h. (let k = step.0 e in s.back k.0 (is.0 k.1, link.0 k.2, h));
}

-- ---- a node

module _ (stored : Stored) (m : ℕ) (p : NodeParts) (old mid : Found) (g : GathersEntries (WalksLink (WalksTree m stored) p.left) old mid) where
  pub gathers_node : (new : Found) → GathersEntries (WalksRows (WalksTree m stored) [] p.rows) mid new → GathersEntries (WalksNode (WalksTree m stored) p) old new
  gathers_node new h = record {
    found = g.found ++ h.found;
    walked = (g.found, h.found, g.walked, h.walked, refl);
    following = joined_after (last_entry_key [] (entries old.items)) g.found h.found g.following
        (subst (λ k. ComeAfter k h.found) (last_of_gathered (WalksLink (WalksTree m stored) p.left) old mid g) h.following);
    all = h.all ∙ ap (λ x. x ++ h.found) g.all ∙ append_assoc (entries old.items) g.found h.found;
  }

  pub stops_in_node : (e : MstError) → StopsInRows (WalksTree m stored) (StopsWalk m stored) (last_entry_key [] (entries mid.items)) [] p.rows e
      → StopsInNode (WalksTree m stored) (StopsWalk m stored) (last_entry_key [] (entries old.items)) p e
  stops_in_node e h = inr (g.found, g.walked, g.following, subst (λ k. StopsInRows (WalksTree m stored) (StopsWalk m stored) k [] p.rows e) (last_of_gathered (WalksLink (WalksTree m stored) p.left) old mid g) h)

-- ---- a node under its name

pub gathers_named : (stored : Stored) (name : CidParts) (m layers : ℕ) (p : NodeParts) → IsNodeAt stored name p → suc m ≡ layers → (old new : Found)
    → GathersEntries (WalksNode (WalksTree m stored) p) old new → GathersEntries (WalksTree layers stored name) old new
gathers_named stored name m layers p at same old new g = subst (λ k. GathersEntries (WalksTree k stored name) old new) same (record { found = g.found; walked = (p, at, g.walked); following = g.following; all = g.all })

pub stops_named : (stored : Stored) (name : CidParts) (m layers : ℕ) (p : NodeParts) → IsNodeAt stored name p → suc m ≡ layers → (before : List ℕ) (e : MstError)
    → StopsInNode (WalksTree m stored) (StopsWalk m stored) before p e → StopsWalk layers stored before name e
stops_named stored name m layers p at same before e h = subst (λ k. StopsWalk k stored before name e) same (inr (p, at, h))

-- no node is under the name
pub no_node : (stored : Stored) (name : CidParts) (m layers : ℕ) → suc m ≡ layers → (before : List ℕ) (e : MstError)
    → ((e ≡ OutOfMemory) × IsStoredNamed stored name) ⊎ NodeFault stored name e → (e ≡ OutOfMemory) ⊎ StopsWalk layers stored before name e
no_node stored name m layers same before e (inl memory) = inl memory.0
no_node stored name m layers same before e (inr fault) = inr (subst (λ k. StopsWalk k stored before name e) same (inl fault))

-- whether a node is right below a layer
pub below_decided : (stored : Stored) (name : CidParts) (above layer : ℕ) (p : NodeParts) (lower fits all : Bool) → IsNodeAt stored name p → layer ≡ above - 1 → Decides lower ((1 ≤ above) × ¬ IsEmpty p)
    → Decides fits (IsOfLayer (IsRightBelow stored layer) layer p) → Decides all ((fits ≡ true) × (lower ≡ true)) → Decides all (IsRightBelow stored above name)
below_decided stored name zero layer p lower fits all at same l f a = (λ e. (let k = l.0 (a.0 e).1 in absurd (omega (arith, k.0))), λ h. absurd h)
below_decided stored name (suc n) layer p lower fits all at same l f a =
    let is : layer ≡ n = omega (arith, same) in (
      λ e. (let k = a.0 e in (p, at, (l.0 k.1).1, subst (λ x. IsOfLayer (IsRightBelow stored x) x p) is (f.0 k.0))),
      λ (q, there, some, h).
          (let one = same_node_at stored name q p there at in
          a.1 (f.1 (subst (λ x. IsOfLayer (IsRightBelow stored x) x p) (sym is) (subst (IsOfLayer (IsRightBelow stored n) n) one h)), l.1 (omega arith, subst (λ x. ¬ IsEmpty x) one some))),
    )
