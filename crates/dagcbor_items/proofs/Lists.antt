-- Reading the items of a list.
use Rattle.std.proofs.Common.{◌≡◌, ℕ, suc, ◌+◌, ◌-◌, ◌<◌, ◌≤◌, List, [], ◌∷◌, ◌++◌, length, map, refl, sym, ap, ◌∙◌, subst, arith, length-append, Vec, Global, false, cond, is_ok, is_err, Result, Ok, Err, set}
use Rattle.std.proofs.Math.Seq.{set-append_seam}
use Rattle.dagcbor_core.specs.Head.{head}
use Rattle.dagcbor_heads.specs.Reading.{Reading, with_steps}
use Rattle.dagcbor_heads.specs.Refusals.{Refuses}
use Rattle.dagcbor_core.specs.declared.error.DecodeError.{DecodeError}
use Rattle.dagcbor_heads.proofs.Taking.{stays, stays_both}
use Rattle.dagcbor_heads.proofs.Refusing.{passed_on}
use Rattle.ipld_tree.specs.Tree.{Tree, list, Items, no_items, item, items_of, any_need, items_need}
use Rattle.ipld_tree.specs.Spelling.{item_count, IsFront, AreFronts}
use Rattle.ipld_tree.specs.Ipld.{tree_of, trees_of}
use Rattle.ipld_tree.specs.declared.ipld.Ipld.{Ipld, List as List'}
use Rattle.ipld_tree.proofs.Trees.{items_need_push, tree_of_List}
use Rattle.ipld_tree.proofs.Fronts.{list_closed, item_opened, item_closed, items_after, is_list}
use Rattle.dagcbor_items.specs.Shapes.{Shape}
use Rattle.dagcbor_items.specs.TypedReads.{HasFront}
use Rattle.dagcbor_items.specs.ReadCauses.{ItemCause, ItemsCause}
use Rattle.dagcbor_items.specs.Untyped.{any_item, HasItem, TakesItem, StartsWithMajor, StartsDefinite}
use Rattle.dagcbor_items.specs.Entering.{Enters}
use Rattle.dagcbor_items.specs.Items.{any_items, HasItems, TakesItems}
use Rattle.dagcbor_items.proofs.ItemRefusals.{in_list, at_steps, after_items}
use Rattle.dagcbor_items.proofs.Fronts.{major_of_front, as_tree, definite}
use Rattle.dagcbor_items.proofs.Rows.{row_entered, row_first}
use Rattle.dagcbor_items.proofs.Steps.{spent_step, stepped_refused, stepped_taken}

-- ---- lists

pub is_list_at : {V : Type 0} {shape : Shape Tree V} {old : Reading} → StartsWithMajor old 4 → (i : HasFront shape old) → (ts : Items) × (i.tree ≡ list ts)
is_list_at starts i = is_list i.tree (major_of_front i.bytes i.rest i.tree 4 (starts i.bytes i.left) i.front)

list_items : {old mid : Reading} {n : ℕ} → StartsWithMajor old 4 → Enters 4 n old mid → HasItem 2 (with_steps (old.steps - 1) old) → HasItems n mid
list_items {old} {mid} {n} starts h i =
    let l = is_list_at starts i in
    row_entered l.0 h i.left (subst (λ t. IsFront i.bytes t i.rest) l.1 i.front) refl (omega (arith, i.within, ap any_need l.1, h.takes.same.steps))

pub list_refused : {E lacks lacks' : Type 0} {old mid : Reading} (new : Reading) (n : ℕ) (e : DecodeError E) → StartsDefinite old 4 → Enters 4 n old mid → (lacks → lacks') → Refuses (record { could = HasItems n mid; lacks = lacks; borrows = ⊥; stands = ItemsCause n mid.steps }) mid e new → Refuses (record { could = HasItem 1 old; lacks = lacks'; borrows = ⊥; stands = ItemCause (old.steps + 1) }) old e new
list_refused {E} {lacks} {lacks'} {old} {mid} new n e starts h w r = stepped_refused new 1 e (spent_step h) w (passed_on (ItemsCause n mid.steps) (ItemCause (old.steps - 1 + 2)) (with_steps (old.steps - 1) old) mid new e h.takes.same (list_items (definite old starts) h) (λ x. x) (λ x. x)
    (λ b l. let k = h.takes.taken b l in (k.0, k.2, λ s. at_steps {E = E} e b _ _ (omega (arith, h.takes.same.steps)) (in_list n mid.steps e b k.0 h.fits k.1 s))) r)

item_count_items_of : (ts : List Tree) → item_count (items_of ts) ≡ length ts
item_count_items_of [] = refl
item_count_items_of (t ∷ ts) = ap suc (item_count_items_of ts)

pub list_taken : {old mid now new : Reading} {n : ℕ} (ts : List Tree) → Enters 4 n old mid → length ts ≡ n → TakesItems mid ts now → new ≡ with_steps (now.steps + 1) now → TakesItem 1 old (list (items_of ts)) new
list_taken {old} {mid} {now} {new} {n} ts h counted a back =
    let count : item_count (items_of ts) ≡ n = item_count_items_of ts ∙ counted in
    stepped_taken 1 (spent_step h) record {
      taken = λ b l.
          let k = h.takes.taken b l in
          let q = a.taken k.0 k.2 in (
            q.0,
            subst (λ x. IsFront x (list (items_of ts)) q.0) (ap (λ m. head 4 m ++ k.0) count ∙ sym k.1) (list_closed k.0 q.0 (items_of ts) (omega (arith, count, h.fits)) q.1),
            omega (arith, q.2, h.takes.same.steps),
            q.3,
          );
      same = stays_both h.takes.same a.same;
    } back

pub list_as_tree : {old mid now new : Reading} {n : ℕ} (v : Vec Ipld Global) → Enters 4 n old mid → (length v.items ≡ n) × TakesItems mid (trees_of v.items) now → new ≡ with_steps (now.steps + 1) now → TakesItem 1 old (tree_of (List' v)) new
list_as_tree {old} {mid} {now} {new} {n} v h r back = as_tree (list (items_of (trees_of v.items))) _ (tree_of_List v) (list_taken (trees_of v.items) h (length_map v.items ∙ r.0) r.1 back)
  where
    length_map : (xs : List Ipld) → length (trees_of xs) ≡ length xs
    length_map [] = refl
    length_map (x ∷ xs) = ap suc (length_map xs)

-- ---- items

fronts_push : (ts : List Tree) (t : Tree) (b c d : List ℕ) → AreFronts b (items_of ts) c → IsFront c t d → AreFronts b (items_of (ts ++ t ∷ [])) d
fronts_push [] t b c d h f = item_closed b d d t no_items (subst (λ x. IsFront x t d) (sym h.is) f) record { well_formed = tt; spellable = tt; is = refl }
fronts_push (u ∷ ts) t b c d h f =
    let o = item_opened b c u (items_of ts) h in
    item_closed b _ d u (items_of (ts ++ t ∷ [])) o.0 (fronts_push ts t _ c d o.1 f)

-- the items of a row that are left after those that were read
record ItemsLeft (us : Items) (ts : List Tree) (c rest : List ℕ) : Type 0 where
  others : Items
  fronts : AreFronts c others rest
  counted : item_count us ≡ length ts + item_count others
  within : items_need others ≤ items_need us

items_left : (ts : List Tree) (us : Items) (b c rest : List ℕ) → AreFronts b (items_of ts) c → AreFronts b us rest → length ts ≤ item_count us → ItemsLeft us ts c rest
items_left [] us b c rest h k fewer = record { others = us; fronts = subst (λ x. AreFronts x us rest) h.is k; counted = omega arith; within = omega arith }
items_left (t ∷ ts) no_items b c rest h k fewer = absurd (omega arith)
items_left (t ∷ ts) (item u us) b c rest h k fewer =
    let o = item_opened b c t (items_of ts) h in
    let a = items_after b _ rest t u us o.0 k in
    let more = items_left ts us _ c rest o.1 a.1 (omega arith) in
    record { others = more.others; fronts = more.fronts; counted = omega (arith, more.counted); within = omega (arith, more.within) }

-- some of the items were read, and these many are left
pub record ReadSome (count left : ℕ) (old : Reading) (ts : List Tree) (now : Reading) : Type 0 where
  pub counted : length ts + left ≡ count
  pub takes : TakesItems old ts now

pub no_item_read : (old : Reading) (count left : ℕ) (ts : List Tree) → left ≡ count → ts ≡ [] → ReadSome count left old ts old
no_item_read old count left ts e none = subst (λ us. ReadSome count left old us old) (sym none) record {
  counted = omega (arith, e);
  takes = record { taken = λ b l. (b, record { well_formed = tt; spellable = tt; is = refl }, omega arith, l); same = stays old };
}

pub one_item_read : {old now new : Reading} {count left left' : ℕ} {t : Tree} (ts us : List Tree) → us ≡ ts ++ t ∷ [] → left' + 1 ≡ left → ReadSome count left old ts now → TakesItem 0 now t new → ReadSome count left' old us new
one_item_read {old} {now} {new} {count} {left} {left'} {t} ts us is e s a = subst (λ vs. ReadSome count left' old vs new) (sym is) record {
  counted = omega (arith, s.counted, length-append ts (t ∷ []));
  takes = record {
    taken = λ b l.
        let k = s.takes.taken b l in
        let q = a.taken k.0 k.3 in
        (q.0, fronts_push ts t b k.0 q.0 k.1 q.1, omega (arith, items_need_push ts t, k.2, q.2, s.takes.same.steps), q.3);
    same = stays_both s.takes.same a.same;
  };
}

-- if `count` items are there, those that were not read come after those that were
next_items : {old now : Reading} {count left : ℕ} (ts : List Tree) → ReadSome count left old ts now → HasItems count old → HasItems left now
next_items {old} {now} {count} {left} ts s i =
    let k = s.takes.taken i.bytes i.left in
    let l = items_left ts i.items i.bytes k.0 i.rest k.1 i.fronts (omega (arith, s.counted, i.counted)) in
    record { bytes = k.0; items = l.others; rest = i.rest; left = k.3; counted = omega (arith, l.counted, s.counted, i.counted); fronts = l.fronts; accepted = refl; within = omega (arith, l.within, i.within, s.takes.same.steps) }

next_item : {old now : Reading} {count left : ℕ} (ts : List Tree) → 0 < left → ReadSome count left old ts now → HasItems count old → HasItem 0 now
next_item ts more s i = row_first (any_item 0) any_items item any_items (λ t us. refl) (λ t us. omega arith) more (next_items ts s i)

pub next_refused : {E lacks lacks' : Type 0} {old now : Reading} {count left : ℕ} (new : Reading) (ts : List Tree) (e : DecodeError E) → 0 < left → ReadSome count left old ts now → (lacks → lacks') → Refuses (record { could = HasItem 0 now; lacks = lacks; borrows = ⊥; stands = ItemCause (now.steps + 0) }) now e new → Refuses (record { could = HasItems count old; lacks = lacks'; borrows = ⊥; stands = ItemsCause count old.steps }) old e new
next_refused {E} {lacks} {lacks'} {old} {now} {count} {left} new ts e more s w r = passed_on (ItemCause (now.steps + 0)) (ItemsCause count old.steps) old now new e s.takes.same (next_item ts more s) w (λ x. x)
    (λ b l. let k = s.takes.taken b l in
    (k.0, k.3, λ here. after_items (items_of ts) count old.steps e b k.0 k.1 (omega (arith, item_count_items_of ts, s.counted, more)) k.2 (at_steps {E = E} e k.0 _ _ (omega (arith, s.takes.same.steps)) here))) r

pub all_items_read : {old now : Reading} {count left : ℕ} (ts : List Tree) → left ≡ 0 → ReadSome count left old ts now → (length ts ≡ count) × TakesItems old ts now
all_items_read ts none s = (omega (arith, s.counted, none), s.takes)

map_push : {A B : Type 0} (f : A → B) (xs : List A) (x : A) → map f (xs ++ x ∷ []) ≡ map f xs ++ f x ∷ []
map_push f [] x = refl
map_push f (y ∷ xs) x = ap (λ l. f y ∷ l) (map_push f xs x)

pub map_pushed : {A B X Y : Type 0} (f : A → B) (r : Result X Y) (xs ys : List A) (x : A) → false ≡ is_err r → ys ≡ cond (is_ok r) (xs ++ x ∷ []) xs → map f ys ≡ map f xs ++ f x ∷ []
map_pushed f (Ok v) xs ys x e h = ap (map f) h ∙ map_push f xs x
map_pushed f (Err d) xs ys x e h = absurd (cc)

-- an item was pushed, and another one put into its place
placed : {A : Type 0} (xs ys : List A) (blank x : A) (i : ℕ) → ys ≡ xs ++ blank ∷ []
    → i ≡ length ys - 1 → set ys i x ≡ xs ++ x ∷ []
placed xs ys blank x i h k =
    let at : i ≡ length xs = omega (arith, k, ap length h, length-append xs (blank ∷ [])) in
    ap (λ l. set l i x) h ∙ ap (λ j. set (xs ++ blank ∷ []) j x) at ∙ set-append_seam xs blank [] x

pub map_placed : {A B X Y : Type 0} (f : A → B) (r : Result X Y) (xs ys : List A) (blank x : A)
    (i : ℕ) → false ≡ is_err r → ys ≡ cond (is_ok r) (xs ++ blank ∷ []) xs → i ≡ length ys - 1
    → map f (set ys i x) ≡ map f xs ++ f x ∷ []
map_placed f (Ok v) xs ys blank x i e h k = ap (map f) (placed xs ys blank x i h k) ∙ map_push f xs x
map_placed f (Err d) xs ys blank x i e h k = absurd (cc)

-- an item that was taken, as an `Ipld`
pub item_taken : (j : Ipld) (t : Tree) (old new : Reading) → tree_of j ≡ t → TakesItem 0 old t new → TakesItem 0 old (tree_of j) new
item_taken j t old new is h = let P : Tree → Type 0 = λ u. TakesItem 0 old u new in subst P (sym is) h
