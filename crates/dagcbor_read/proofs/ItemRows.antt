-- Rows of items, read one by one.
use Rattle.std.proofs.Common.{◌≡◌, ℕ, ◌+◌, ◌-◌, ◌<◌, ◌≤◌, max, List, [], ◌∷◌, ◌++◌, true, false, Bool, ◌||◌, refl, sym, ap, ◌∙◌, subst, arith, append_assoc, append-nil, Option, None, Some, is_some, option_map, option_and_then, Result, Ok, Err, is_ok, is_err, cond, IfSome, All}
use Rattle.std.proofs.lemmas.List.Elements.{All-push}
use Rattle.dagcbor_core.specs.Head.{head}
use Rattle.dagcbor_heads.specs.Reading.{Reading, Stays, with_steps}
use Rattle.dagcbor_heads.specs.Refusals.{Refuses}
use Rattle.dagcbor_core.specs.declared.error.DecodeError.{DecodeError}
use Rattle.dagcbor_heads.proofs.Taking.{stays, stays_both}
use Rattle.ipld_tree.specs.Tree.{Tree, list, Items, no_items, item}
use Rattle.ipld_tree.specs.Spelling.{item_count, IsFront, AreFronts}
use Rattle.ipld_tree.proofs.Fronts.{list_closed, item_closed, items_after}
use Rattle.dagcbor_read.specs.Deserializers.{DeState, Call}
use Rattle.dagcbor_items.specs.TypedReads.{RefusesRead, HasFront, TakesFront, MayLack, Anything}
use Rattle.dagcbor_read.specs.Values.{ReadsValue}
use Rattle.dagcbor_items.specs.Entering.{Enters}
use Rattle.dagcbor_read.specs.Accessors.{AccessorState, accessor_state, BeginsItems}
use Rattle.dagcbor_read.specs.declared.access.accessor.Accessor.{Accessor}
use Rattle.dagcbor_items.specs.Items.{HasRow}
use Rattle.dagcbor_read.specs.Collections.{view_list, need_list, view_none, TakesRow, ReadsRest, list_of, all_of, no_more, first_then, optional_then}
use Rattle.dagcbor_items.proofs.Rows.{row_entered, row_first}
use Rattle.dagcbor_read.proofs.Progressing.{call_answered}
use Rattle.dagcbor_heads.proofs.Refusing.{SameReader, refusal_carried}
use Rattle.dagcbor_read.proofs.Passing.{given_back, or_left, or_right, lacks_before}
use Rattle.dagcbor_items.specs.Shapes.{Shape}

pub same_reader : {old new : Reading} → Stays old new → SameReader old new
same_reader h = record { faults = h.faults; lends = h.lends }

-- what was entered with a step is left with that step again
pub left_again : {major count : ℕ} {old mid now new : Reading} → Enters major count old mid → Stays mid now → new ≡ with_steps (now.steps + 1) now → Stays old new
left_again n r back =
    let a = n.takes.same in
    given_back (record { steps = omega (arith, a.steps, n.step); budget = a.budget; lends = a.lends; faults = a.faults; through = a.through }) r refl back

-- ---- options

some_second : {A B C : Type 0} (f : A → B → C) (o : Option A) (p : Option B) → is_some (option_and_then (λ a. option_map (f a) p) o) ≡ true → is_some p ≡ true
some_second f None p e = absurd (cc e)
some_second f (Some a) None e = absurd (cc e)
some_second f (Some a) (Some b) e = refl

-- ---- no item

pub no_row_taken : {old : Reading} {count : ℕ} → count ≡ 0 → TakesRow no_more count old tt old
no_row_taken {old} e = record { taken = λ b l. (no_items, b, sym e, record { well_formed = tt; spellable = tt; is = refl }, refl, omega arith, l); same = stays old }

pub none_left : {r : Reading} {count : ℕ} → HasRow no_more count r → count ≡ 0
none_left {r} {count} h = by h.items h.counted h.accepted
  where
    by : (ts : Items) → item_count ts ≡ count → is_some (view_none ts) ≡ true → count ≡ 0
    by no_items e a = sym e
    by (item t ts) e a = absurd (cc a)

-- ---- an item before others

-- What the whole shows of an item and of those after it is made by f of what both show.
pub record Joins {V W U : Type 0} (shape : Shape Tree V) (others : Shape Items W) (f : V → W → U) (whole : Shape Items U) : Type 0 where
  pub shows : (t : Tree) (ts : Items) → whole.view (item t ts) ≡ option_and_then (λ v. option_map (f v) (others.view ts)) (shape.view t)
  pub needs : (t : Tree) (ts : Items) → whole.need (item t ts) ≡ max (shape.need t) (others.need ts)
  pub loans : (shape.wants_loan || others.wants_loan) ≡ true → whole.wants_loan ≡ true
  pub memory : (lends : Bool) → (shape.memory lends || others.memory lends) ≡ true → whole.memory lends ≡ true

module _ {V W : Type 0} (shape : Shape Tree V) (others : Shape Items W) where
  pub first_joins : Joins shape others (λ v w. (v, w)) (first_then shape others)
  first_joins = record { shows = λ t ts. refl; needs = λ t ts. refl; loans = λ e. e; memory = λ lends e. e }

  pub optional_joins : Joins shape others (λ v w. (Some v, w)) (optional_then shape others)
  optional_joins = record { shows = λ t ts. refl; needs = λ t ts. refl; loans = λ e. e; memory = λ lends e. e }

one_of : (b : Bool) → (b || b) ≡ true → b ≡ true
one_of true e = refl
one_of false e = e

all_joins : {V : Type 0} (shape : Shape Tree V) → Joins shape (all_of shape) (λ v vs. v ∷ vs) (all_of shape)
all_joins shape = record { shows = λ t ts. refl; needs = λ t ts. refl; loans = one_of shape.wants_loan; memory = λ lends e. refl }

pub as_row : {V : Type 0} {shape : Shape Items V} {old new : Reading} {count count' : ℕ} (v w : V) → count ≡ count' → v ≡ w → TakesRow shape count old v new → TakesRow shape count' old w new
as_row {V} {shape} {old} {new} {count} {count'} v w e i h = subst (λ x. TakesRow shape count' old x new) i (subst (λ n. TakesRow shape n old v new) e h)

module _ {V W U : Type 0} {shape : Shape Tree V} {others : Shape Items W} {f : V → W → U} {whole : Shape Items U} (j : Joins shape others f whole) where
  first_of : {r : Reading} {count : ℕ} → 0 < count → HasRow whole count r → HasFront shape r
  first_of = row_first shape others f whole j.shows j.needs

  row_others : {old new : Reading} {count : ℕ} {v : V} → 0 < count → TakesFront shape old v new → HasRow whole count old → HasRow others (count - 1) new
  row_others {old} {new} {count} {v} some a h = by h.items h.counted h.fronts h.accepted h.within
    where
      by : (ts : Items) → item_count ts ≡ count → AreFronts h.bytes ts h.rest → is_some (whole.view ts) ≡ true → whole.need ts ≤ old.steps → HasRow others (count - 1) new
      by no_items e k a w = absurd (omega (arith, e, some))
      by (item u us) e k ok w =
          let t = a.taken h.bytes h.left in
          let more = items_after h.bytes t.1 h.rest t.0 u us t.2 k in
          record {
            bytes = t.1;
            items = us;
            rest = h.rest;
            left = t.5;
            counted = omega (arith, e);
            fronts = more.1;
            accepted = some_second f (shape.view u) (others.view us) (ap is_some (sym (j.shows u us)) ∙ ok);
            within = omega (arith, w, j.needs u us, a.same.steps);
          }

  row_taken : {old mid new : Reading} {count : ℕ} {v : V} {w : W} → TakesFront shape old v mid → TakesRow others count mid w new → TakesRow whole (count + 1) old (f v w) new
  row_taken {old} {mid} {new} {count} {v} {w} a o = record {
    taken = λ b l.
        let t = a.taken b l in
        let ts = o.taken t.1 t.5 in (
          item t.0 ts.0,
          ts.1,
          omega (arith, ts.2),
          item_closed b t.1 ts.1 t.0 ts.0 t.2 ts.3,
          j.shows t.0 ts.0 ∙ ap (option_and_then (λ v. option_map (f v) (others.view ts.0))) t.3 ∙ ap (option_map (f v)) ts.4,
          omega (arith, j.needs t.0 ts.0, t.4, ts.5, a.same.steps),
          ts.6,
        );
    same = stays_both a.same o.same;
  }

  -- the first was refused
  pub part_refused : {E : Type 0} {count : ℕ} (old new : Reading) (e : DecodeError E) → 0 < count → RefusesRead (HasFront shape old) shape old e new
      → RefusesRead (HasRow whole count old) whole old e new
  part_refused {E} {count} old new e some r = refusal_carried Anything Anything old old new e (same_reader (stays old)) (first_of some)
      (λ x. j.memory old.lends (or_left (shape.memory old.lends) (others.memory old.lends) x)) (λ x. j.loans (or_left shape.wants_loan others.wants_loan x)) (λ b l g. tt) r

  -- it was read, and the others were refused
  pub parts_refused : {E : Type 0} {before after : AccessorState} {old mid : Reading} {v : V} (new : Reading) (e : DecodeError E) → 0 < before.left → after ≡ record before { left = before.left - 1 } → TakesFront shape old v mid
      → RefusesRead (HasRow others after.left mid) others mid e new
      → RefusesRead (HasRow whole before.left old) whole old e new
  parts_refused {E} {before} {after} {old} {mid} new e some is a r = refusal_carried Anything Anything old mid new e (same_reader a.same)
      (λ h. subst (λ n. HasRow others n mid) (sym (ap (λ (c : AccessorState). c.left) is)) (row_others some a h))
      (λ x. j.memory old.lends (or_right (shape.memory old.lends) (others.memory old.lends) (lacks_before others.memory a.same.lends x))) (λ x. j.loans (or_right shape.wants_loan others.wants_loan x)) (λ b l g. tt) r

  -- it was read, and so were the others
  pub parts_taken : {before now_left after : AccessorState} {old mid : Reading} {new : DeState} {v : V} {w : W} → 0 < before.left → now_left ≡ record before { left = before.left - 1 } → TakesFront shape old v mid
      → (new.failed ≡ false) × (after ≡ record now_left { left = after.left }) × (after.left ≤ now_left.left) × TakesRow others (now_left.left - after.left) mid w new.input × (HasRow others now_left.left mid → after.left ≡ 0)
      → (new.failed ≡ false) × (after ≡ record before { left = after.left }) × (after.left ≤ before.left) × TakesRow whole (before.left - after.left) old (f v w) new.input
      × (HasRow whole before.left old → after.left ≡ 0)
  parts_taken {before} {now_left} {after} {old} {mid} {new} {v} {w} some is a r =
      let less : now_left.left ≡ before.left - 1 = ap (λ (c : AccessorState). c.left) is in (
        r.0,
        r.1 ∙ ap (λ (c : AccessorState). record c { left = after.left }) is,
        omega (arith, less, r.2),
        as_row (f v w) (f v w) (omega (arith, less, some, r.2)) refl (row_taken a r.3),
        λ h. r.4 (subst (λ n. HasRow others n mid) (sym less) (row_others some a h)),
      )

-- ---- items of one type

module _ {V : Type 0} (shape : Shape Tree V) where
  -- some items, with the views vs, were read; those after them have the other views
  pub record ReadSoFar (before : AccessorState) (old : DeState) (now_left : AccessorState) (vs : List V) (now : DeState) : Type 0 where
    pub sound : now.failed ≡ false
    pub is : now_left ≡ record before { left = now_left.left }
    pub fewer : now_left.left ≤ before.left
    pub same : Stays old.input now.input
    pub has : HasRow (all_of shape) before.left old.input → HasRow (all_of shape) now_left.left now.input
    pub takes : (count : ℕ) (ws : List V) (new : Reading) → TakesRow (all_of shape) count now.input ws new
        → TakesRow (all_of shape) (count + (before.left - now_left.left)) old.input (vs ++ ws) new

  pub one_more_item : {before now_left after : AccessorState} {old now new : DeState} {v : V} (vs ws : List V) → ReadSoFar before old now_left vs now → 0 < now_left.left → after ≡ record now_left { left = now_left.left - 1 } → new.failed ≡ false
      → TakesFront shape now.input v new.input → ws ≡ vs ++ v ∷ [] → ReadSoFar before old after ws new
  one_more_item {before} {now_left} {after} {old} {now} {new} {v} vs ws s some is f a e =
      let less : after.left ≡ now_left.left - 1 = ap (λ (c : AccessorState). c.left) is in
      subst (λ x. ReadSoFar before old after x new) (sym e) record {
        sound = f;
        is = is ∙ ap (λ (c : AccessorState). record c { left = now_left.left - 1 }) s.is ∙ ap (λ n. record before { left = n }) (sym less);
        fewer = omega (arith, less, s.fewer);
        same = stays_both s.same a.same;
        has = λ h. subst (λ n. HasRow (all_of shape) n new.input) (sym less)
            (row_others (all_joins shape) some a (s.has h));
        takes = λ count xs end t. as_row (vs ++ (v ∷ xs)) ((vs ++ v ∷ []) ++ xs) (omega (arith, less, some, s.fewer)) (sym (append_assoc vs (v ∷ []) xs))
            (s.takes (count + 1) (v ∷ xs) end (row_taken (all_joins shape) a t));
      }

  -- no items are taken from those left
  pub no_more_items : (r : Reading) → TakesRow (all_of shape) 0 r [] r
  no_more_items r = record { taken = λ b l. (no_items, b, refl, record { well_formed = tt; spellable = tt; is = refl }, refl, omega arith, l); same = stays r }

  pub none_more : {before now_left after : AccessorState} {old now new : DeState} (vs : List V) → ReadSoFar before old now_left vs now → now_left.left ≡ 0 → after ≡ now_left → new.failed ≡ false → new.input ≡ now.input
      → (new.failed ≡ false) × (after ≡ record before { left = after.left }) × (after.left ≤ before.left) × TakesRow (all_of shape) (before.left - after.left) old.input vs new.input
      × (HasRow (all_of shape) before.left old.input → after.left ≡ 0)
  none_more {before} {now_left} {after} {old} {now} {new} vs s none is f same =
      let end = subst (TakesRow (all_of shape) 0 now.input []) (sym same) (no_more_items now.input) in
      let as_left : after.left ≡ now_left.left = ap (λ (c : AccessorState). c.left) is in (
        f,
        is ∙ s.is ∙ ap (λ n. record before { left = n }) (sym as_left),
        omega (arith, as_left, s.fewer),
        as_row (vs ++ []) vs (omega (arith, as_left)) (append-nil vs) (s.takes 0 [] new.input end),
        λ h. as_left ∙ none,
      )

  pub item_refused : {E : Type 0} {before now_left : AccessorState} {old now : DeState} {vs : List V} (borrows : Type 0) (new : Reading) (e : DecodeError E) → ReadSoFar before old now_left vs now → 0 < now_left.left
      → Refuses (record { could = HasFront shape now.input; lacks = MayLack shape.memory now.input; borrows = borrows; stands = Anything }) now.input e new → Refuses (record { could = HasRow (all_of shape) before.left old.input; lacks = MayLack (all_of shape).memory old.input; borrows = borrows; stands = Anything }) old.input e new
  item_refused {E} {before} {now_left} {old} {now} borrows new e s some r =
      refusal_carried Anything Anything old.input now.input new e (same_reader s.same) (λ h. first_of (all_joins shape) some (s.has h)) (λ x. refl) (λ x. x) (λ b l g. tt) r

-- an item that is in memory where the input has its values joins others that are
pub lies_pushed : {A X Y : Type 0} (lies : Bool → A → Type 0) {old now : Reading} (r : Result X Y) (xs ys : List A) (o : Option A) (x : A) → Stays old now → o ≡ Some x → IfSome o (lies now.lends) → false ≡ is_err r → ys ≡ cond (is_ok r) (xs ++ x ∷ []) xs
    → All (lies old.lends) xs → All (lies old.lends) ys
lies_pushed lies {old} {now} (Ok v) xs ys o x same some l e is h =
    let last : lies old.lends x = subst (λ b. lies b x) same.lends (subst (λ p. IfSome p (lies now.lends)) some l) in
    subst (All (lies old.lends)) (sym is) (All-push (lies old.lends) xs x h last)
lies_pushed lies (Err d) xs ys o x same some l e is h = absurd (cc e)

-- ---- the whole list

module _ {V : Type 0} (shape : Shape Items V) where
  pub list_has_row : {old mid : Reading} {count : ℕ} → Enters 4 count old mid → HasFront (list_of shape) old → HasRow shape count mid
  list_has_row {old} {mid} {count} n h = by h.tree h.front h.accepted h.within
    where
      by : (t : Tree) → IsFront h.bytes t h.rest → is_some (view_list shape.view t) ≡ true → need_list shape.need t ≤ old.steps → HasRow shape count mid
      by (list ts) f a w = row_entered ts n h.left f a (omega (arith, w, n.takes.same.steps))
      by _ f a w = absurd (cc a)

  pub typed_list_taken : {old mid now new : Reading} {count : ℕ} {v : V} → Enters 4 count old mid → TakesRow shape count mid v now → new ≡ with_steps (now.steps + 1) now → TakesFront (list_of shape) old v new
  typed_list_taken {old} {mid} {now} {new} {count} {v} n r back = record {
    taken = λ b l.
        let k = n.takes.taken b l in
        let q = r.taken k.0 k.2 in (
          list q.0,
          q.1,
          subst (λ x. IsFront x (list q.0) q.1) (ap (λ m. head 4 m ++ k.0) q.2 ∙ sym k.1) (list_closed k.0 q.1 q.0 (omega (arith, q.2, n.fits)) q.3),
          q.4,
          omega (arith, q.5, n.takes.same.steps, n.step),
          ap (λ (r : Reading). r.left) back ∙ q.6,
        );
    same = left_again n r.same back;
  }

  -- all that is left is read of a list that was begun
  pub rest_reads : {T E : Type 0} (meaning : T → V) (old mid new : DeState) (name : List ℕ) (a : Accessor) (result : Result T (DecodeError E)) → Call (BeginsItems {E = E} 4 name 1) old (Ok a) mid
      → ReadsRest meaning shape (accessor_state a) mid result new → ReadsValue meaning (list_of shape) old result new
  rest_reads {T} {E} meaning old mid new name a (Ok v) h r f =
      let k = call_answered (BeginsItems 4 name 1) old mid a h in
      let one : a.steps ≡ 1 = ap (λ (c : AccessorState). c.steps) k.2.0 in
      (r.0, typed_list_taken k.2.2 r.2 (r.3 ∙ ap (λ n. with_steps (r.1.steps + n) r.1) one))
  rest_reads {T} {E} meaning old mid new name a (Err e) h r f =
      let k = call_answered (BeginsItems 4 name 1) old mid a h in
      refusal_carried Anything Anything old.input mid.input new.input e record { faults = k.2.2.takes.same.faults; lends = k.2.2.takes.same.lends } (list_has_row k.2.2) (lacks_before shape.memory k.2.2.takes.same.lends) (λ x. x) (λ b l g. tt) r
