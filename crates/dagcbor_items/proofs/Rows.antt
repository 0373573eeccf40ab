-- A row of items or entries after the head of its list or map, and the first of them.
use Rattle.std.proofs.Common.{◌≡◌, ℕ, ◌<◌, ◌≤◌, max, List, ◌++◌, true, refl, sym, ap, ◌∙◌, subst, arith, Option, None, Some, is_some, option_map, option_and_then}
use Rattle.dagcbor_heads.specs.Reading.{Reading}
use Rattle.ipld_tree.specs.Tree.{Tree, text, list, mapping, Items, no_items, item, Entries, no_entries, entry}
use Rattle.ipld_tree.specs.Spelling.{item_count, entry_count, items_spelling, entries_spelling, IsFront, AreFronts, AreEntryFronts}
use Rattle.ipld_tree.proofs.Fronts.{list_opened, map_opened, item_opened, entry_opened, front_unique}
use Rattle.dagcbor_items.specs.Shapes.{Shape}
use Rattle.dagcbor_items.specs.TypedReads.{HasFront}
use Rattle.dagcbor_items.specs.Places.{Follows}
use Rattle.dagcbor_items.specs.Untyped.{TakesItem}
use Rattle.dagcbor_items.specs.Entering.{Enters}
use Rattle.dagcbor_items.specs.Items.{HasRow}
use Rattle.dagcbor_items.specs.Entries.{HasKey, AllFollow, HasEntryRow}

-- if a list or a map is at the front, its row is after its head
pub row_entered : {V : Type 0} {shape : Shape Items V} {old mid : Reading} {count : ℕ} {b rest : List ℕ} (ts : Items) → Enters 4 count old mid → old.left ≡ Some b → IsFront b (list ts) rest
    → is_some (shape.view ts) ≡ true → shape.need ts ≤ mid.steps → HasRow shape count mid
row_entered {b = b} {rest = rest} ts n l f accepted within =
    let k = n.takes.taken b l in
    let o = list_opened b k.0 rest _ ts n.fits f k.1 in
    record { bytes = k.0; items = ts; rest = rest; left = k.2; counted = o.0; fronts = o.1; accepted = accepted; within = within }

pub entries_entered : {V : Type 0} {shape : Shape Entries V} {old mid : Reading} {count : ℕ} {b rest : List ℕ} (es : Entries) → Enters 5 count old mid → old.left ≡ Some b → IsFront b (mapping es) rest
    → is_some (shape.view es) ≡ true → shape.need es ≤ mid.steps → HasEntryRow shape None count mid
entries_entered {b = b} {rest = rest} es n l f accepted within =
    let k = n.takes.taken b l in
    let o = map_opened b k.0 rest _ es n.fits f k.1 in
    record { bytes = k.0; entries = es; rest = rest; left = k.2; counted = o.0; follow = tt; fronts = o.1; accepted = accepted; within = within }

pub some_first : {A B : Type 0} (f : A → Option B) (o : Option A) → is_some (option_and_then f o) ≡ true → is_some o ≡ true
some_first f None e = absurd (cc e)
some_first f (Some a) e = refl

-- an item before others
pub row_first : {V W U : Type 0} (shape : Shape Tree V) (others : Shape Items W) (f : V → W → U) (whole : Shape Items U)
    → ((t : Tree) (ts : Items) → whole.view (item t ts) ≡ option_and_then (λ v. option_map (f v) (others.view ts)) (shape.view t))
    → ((t : Tree) (ts : Items) → whole.need (item t ts) ≡ max (shape.need t) (others.need ts))
    → {r : Reading} {count : ℕ} → 0 < count → HasRow whole count r → HasFront shape r
row_first shape others f whole shows needs {r} {count} some h = by h.items h.counted h.fronts h.accepted h.within
  where
    by : (ts : Items) → item_count ts ≡ count → AreFronts h.bytes ts h.rest → is_some (whole.view ts) ≡ true → whole.need ts ≤ r.steps → HasFront shape r
    by no_items e k a w = absurd (omega (arith, e, some))
    by (item t ts) e k a w = record {
      bytes = h.bytes;
      tree = t;
      rest = items_spelling ts ++ h.rest;
      left = h.left;
      front = (item_opened h.bytes h.rest t ts k).0;
      accepted = some_first (λ v. option_map (f v) (others.view ts)) (shape.view t) (ap is_some (sym (shows t ts)) ∙ a);
      within = omega (arith, w, needs t ts);
    }

-- the first of the entries, and all of them, after a key
pub first_follows : (last : Option (List ℕ)) (k : List ℕ) (t : Tree) (es : Entries) → AllFollow last (entry k t es) → Follows last k
first_follows None k t es f = tt
first_follows (Some l) k t es f = f

pub all_follow : (last : Option (List ℕ)) (k : List ℕ) (t : Tree) (es : Entries) → Follows last k → AllFollow last (entry k t es)
all_follow None k t es f = tt
all_follow (Some l) k t es f = f

-- the key of an entry before others
pub row_key : {V : Type 0} {shape : Shape Entries V} {r : Reading} {last : Option (List ℕ)} {count : ℕ} → 0 < count → HasEntryRow shape last count r → HasKey last r
row_key {V} {shape} {r} {last} {count} some h = by h.entries h.counted h.follow h.fronts
  where
    by : (es : Entries) → entry_count es ≡ count → AllFollow last es → AreEntryFronts h.bytes es h.rest → HasKey last r
    by no_entries e f k = absurd (omega (arith, e, some))
    by (entry l u es) e f k =
        let p = entry_opened h.bytes h.rest l u es k in
        record { bytes = h.bytes; key = l; rest = p.0; left = h.left; front = p.1; follows = first_follows last l u es f }

-- its value, after the key was taken
pub row_value : {V : Type 0} {shape : Shape Entries V} {old mid : Reading} {last : Option (List ℕ)} {count : ℕ} (key : List ℕ) → 0 < count → TakesItem 1 old (text key) mid → (h : HasEntryRow shape last count old)
    → (t : Tree) × (es : Entries) × (c : List ℕ) × (h.entries ≡ entry key t es) × (mid.left ≡ Some c) × IsFront c t (entries_spelling es ++ h.rest)
row_value {V} {shape} {old} {mid} {last} {count} key some a h = by h.entries refl h.fronts
  where
    by : (all : Entries) → h.entries ≡ all → AreEntryFronts h.bytes all h.rest → (t : Tree) × (es : Entries) × (c : List ℕ) × (h.entries ≡ entry key t es) × (mid.left ≡ Some c) × IsFront c t (entries_spelling es ++ h.rest)
    by no_entries e k = absurd (omega (arith, h.counted, ap entry_count e, some))
    by (entry l u es) e k =
        let p = entry_opened h.bytes h.rest l u es k in
        let q = a.taken h.bytes h.left in
        let same = front_unique h.bytes q.0 p.0 (text key) (text l) q.1 p.1 in
        let is : l ≡ key = cc same.0 in
        (u, es, q.0, e ∙ ap (λ x. entry x u es) is, q.3, subst (λ x. IsFront x u (entries_spelling es ++ h.rest)) (sym same.1) p.2)
