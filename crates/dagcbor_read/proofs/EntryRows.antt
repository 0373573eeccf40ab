-- Entries of a map, read one by one into a state.
use Rattle.std.proofs.Common.{◌≡◌, ℕ, ◌+◌, ◌-◌, ◌<◌, ◌≤◌, Bool, List, ◌++◌, true, false, refl, sym, ap, ◌∙◌, subst, arith, Option, None, Some, is_some, option_and_then, Result, Ok, Err, MatchResult, MatchBool, IfOk}
use Rattle.dagcbor_core.specs.Head.{head}
use Rattle.dagcbor_heads.specs.Reading.{Reading, Stays, with_steps}
use Rattle.dagcbor_heads.specs.Refusals.{RefusesOrLacksMemoryUnlent, Refuses}
use Rattle.dagcbor_core.specs.declared.error.DecodeError.{DecodeError}
use Rattle.dagcbor_heads.proofs.Taking.{stays, stays_both}
use Rattle.ipld_tree.specs.Tree.{Tree, text, mapping, Entries, no_entries, entry, Precedes}
use Rattle.ipld_tree.specs.Spelling.{entry_count, entries_spelling, IsFront, AreEntryFronts}
use Rattle.ipld_tree.proofs.Fronts.{entry_closed, entries_after}
use Rattle.dagcbor_items.specs.Untyped.{TakesItem}
use Rattle.dagcbor_items.specs.Places.{Follows}
use Rattle.dagcbor_items.specs.ReadCauses.{KeyCause}
use Rattle.dagcbor_items.specs.Entries.{HasKey, AllFollow}
use Rattle.dagcbor_read.specs.Deserializers.{DeState, Call}
use Rattle.dagcbor_items.specs.TypedReads.{RefusesRead, HasFront, TakesFront, MayLack, Anything}
use Rattle.dagcbor_read.specs.Values.{ReadsValue}
use Rattle.dagcbor_items.specs.Entering.{Enters}
use Rattle.dagcbor_read.specs.Accessors.{AccessorState, accessor_state, BeginsItems}
use Rattle.dagcbor_read.specs.Enums.{EnumState, BeginsHeld, IsOtherForm, ReadsFieldsHeld}
use Rattle.dagcbor_read.specs.declared.access.accessor.Accessor.{Accessor}
use Rattle.dagcbor_read.specs.Collections.{view_entries, view_fields, need_entries, need_fields, HasFields, TakesFields, ReadsEntriesLeft, fields_of, fields_memory, value_of, FieldShape}
use Rattle.dagcbor_items.proofs.Rows.{entries_entered, some_first, all_follow, row_key, row_value}
use Rattle.dagcbor_items.proofs.Maps.{map_closed}
use Rattle.dagcbor_read.proofs.Progressing.{call_answered}
use Rattle.dagcbor_read.proofs.Answered.{KeyRead}
use Rattle.dagcbor_read.proofs.ItemRows.{same_reader, left_again}
use Rattle.dagcbor_heads.proofs.Refusing.{refusal_carried}
use Rattle.dagcbor_read.proofs.Passing.{or_left, lacks_before, lacks_unlent}
use Rattle.dagcbor_items.specs.Shapes.{unless_lent}
use Rattle.dagcbor_read.specs.Parts.{PassesEntries}

-- one entry more was passed
one_passed : (es : Entries) (b c at d : List ℕ) (before last : Option (List ℕ)) (k : List ℕ) (t : Tree) → PassesEntries es b before c last → IsFront c (text k) at → Follows last k → IsFront at t d
    → (more : Entries) × PassesEntries more b before d (Some k) × (entry_count more ≡ entry_count es + 1)
one_passed no_entries b c at d before last k t h f follows v =
    (entry k t no_entries, (at, d, subst (λ x. IsFront x (text k) at) h.0 f, subst (λ x. Follows x k) h.1 follows, v, (refl, refl)), refl)
one_passed (entry l u es) b c at d before last k t h f follows v =
    let r = one_passed es h.1 c at d (Some l) last k t h.5 f follows v in
    (entry l u r.0, (h.0, h.1, h.2, h.3, h.4, r.1), omega (arith, r.2))

module _ {S : Type 0} (shape : FieldShape S) where
  -- ---- an entry before others

  fields_value : {old mid : Reading} {state : S} {last : Option (List ℕ)} {count : ℕ} (key : List ℕ) → 0 < count → TakesItem 1 old (text key) mid → HasFields shape state last count old → HasFront (value_of shape state key) mid
  fields_value {old} {mid} {state} {last} {count} key some a h =
      let v = row_value key some a h in record {
        bytes = v.2;
        tree = v.0;
        rest = entries_spelling v.1 ++ h.rest;
        left = v.4;
        front = v.5;
        accepted = some_first (λ n. view_entries shape.take n v.1) (shape.take state key v.0) (ap (λ es. is_some (view_entries shape.take state es)) (sym v.3) ∙ h.accepted);
        within = omega (arith, h.within, ap (need_entries shape.need) v.3, a.same.steps);
      }

  fields_others : {old mid new : Reading} {state next : S} {last : Option (List ℕ)} {count : ℕ} (key : List ℕ) → 0 < count → TakesItem 1 old (text key) mid → TakesFront (value_of shape state key) mid next new
      → HasFields shape state last count old → HasFields shape next (Some key) (count - 1) new
  fields_others {old} {mid} {new} {state} {next} {last} {count} key some a w h = by h.entries h.counted h.fronts h.accepted h.within
    where
      by : (es : Entries) → entry_count es ≡ count → AreEntryFronts h.bytes es h.rest → is_some (view_entries shape.take state es) ≡ true → need_entries shape.need es ≤ old.steps → HasFields shape next (Some key) (count - 1) new
      by no_entries e k ok n = absurd (omega (arith, e, some))
      by (entry l u es) e k ok n =
          let q = a.taken h.bytes h.left in
          let v = w.taken q.0 q.3 in
          let m = entries_after h.bytes q.0 v.1 h.rest key l v.0 u es q.1 v.2 k in
          let is : shape.take state l u ≡ Some next = ap (λ x. shape.take state x u) m.0 ∙ ap (shape.take state key) m.1 ∙ v.3 in
          record {
            bytes = v.1;
            entries = es;
            rest = h.rest;
            left = v.5;
            counted = omega (arith, e);
            follow = subst (λ x. Precedes x es) m.0 m.2;
            fronts = m.3;
            accepted = ap (λ o. is_some (option_and_then (λ n. view_entries shape.take n es) o)) (sym is) ∙ ok;
            within = omega (arith, n, a.same.steps, w.same.steps);
          }

  fields_taken : {old mid now new : Reading} {state next s : S} {last : Option (List ℕ)} {count : ℕ} (key : List ℕ) → Follows last key → TakesItem 1 old (text key) mid → TakesFront (value_of shape state key) mid next now
      → TakesFields shape next (Some key) count now s new → TakesFields shape state last (count + 1) old s new
  fields_taken {old} {mid} {now} {new} {state} {next} {s} {last} {count} key f a w r = record {
    taken = λ b l.
        let q = a.taken b l in
        let v = w.taken q.0 q.3 in
        let o = r.taken v.1 v.5 in (
          entry key v.0 o.0,
          o.1,
          omega (arith, o.2),
          all_follow last key v.0 o.0 f,
          entry_closed b q.0 v.1 o.1 key v.0 o.0 q.1 v.2 o.3 o.4,
          ap (option_and_then (λ n. view_entries shape.take n o.0)) v.3 ∙ o.5,
          omega (arith, v.4, o.6, a.same.steps, w.same.steps),
          o.7,
        );
    same = stays_both a.same (stays_both w.same r.same);
  }

  -- ---- the loop

  -- some entries were read, which changed the state to s; those after them change it further
  pub record FieldsSoFar (start : S) (before : AccessorState) (old : DeState) (now_left : AccessorState) (s : S) (now : DeState) : Type 0 where
    pub sound : now.failed ≡ false
    pub is_map : now_left.is_map ≡ true
    pub in_turn : now_left.owes_value ≡ false
    pub steps : now_left.steps ≡ before.steps
    pub fewer : now_left.left ≤ before.left
    pub same : Stays old.input now.input
    pub has : HasFields shape start before.last before.left old.input → HasFields shape s now_left.last now_left.left now.input
    pub takes : (count : ℕ) (end : S) (new : Reading) → TakesFields shape s now_left.last count now.input end new
        → TakesFields shape start before.last (count + (before.left - now_left.left)) old.input end new
    pub stands : (b : List ℕ) → old.input.left ≡ Some b
        → (es : Entries) × (c : List ℕ) × PassesEntries es b before.last c now_left.last × (entry_count es + now_left.left ≡ before.left) × (now.input.left ≡ Some c)

  pub as_count : {old new : Reading} {state s : S} {last : Option (List ℕ)} {count count' : ℕ} → count ≡ count' → TakesFields shape state last count old s new → TakesFields shape state last count' old s new
  as_count {old} {new} {state} {s} {last} e h = subst (λ n. TakesFields shape state last n old s new) e h

  pub no_field_so_far : (start : S) (before : AccessorState) (old : DeState) → old.failed ≡ false → before.is_map ≡ true → before.owes_value ≡ false → FieldsSoFar start before old before start old
  no_field_so_far start before old f m o = record {
    sound = f;
    is_map = m;
    in_turn = o;
    steps = refl;
    fewer = omega arith;
    same = stays old.input;
    has = λ h. h;
    takes = λ count end new t. as_count (omega arith) t;
    stands = λ b l. (no_entries, b, (refl, refl), omega arith, l);
  }

  pub key_not_read : {E : Type 0} {start s : S} {before now_left : AccessorState} {old now : DeState} (borrows : Type 0) (new : Reading) (e : DecodeError E) → FieldsSoFar start before old now_left s now → 0 < now_left.left
      → RefusesOrLacksMemoryUnlent (HasKey now_left.last now.input) (KeyCause now_left.last) now.input e new
      → Refuses (record { could = HasFields shape start before.last before.left old.input; lacks = MayLack (fields_memory shape) old.input; borrows = borrows; stands = Anything }) old.input e new
  key_not_read {E} {start} {s} {before} {now_left} {old} {now} borrows new e i some r =
      refusal_carried (KeyCause now_left.last) Anything old.input now.input new e (same_reader i.same) (λ h. row_key some (i.has h)) (λ x. or_left (unless_lent old.input.lends) (shape.memory old.input.lends) (lacks_unlent i.same.lends x)) (λ x. absurd x) (λ b l g. tt) r

  pub value_not_read : {E : Type 0} {start s : S} {before now_left : AccessorState} {old now mid : DeState} (L borrows : Type 0) (new : Reading) (e : DecodeError E) (key text' : List ℕ) → text' ≡ key → FieldsSoFar start before old now_left s now
      → KeyRead now_left.last now_left.left now key mid → (L → MayLack (fields_memory shape) mid.input) → Refuses (record { could = HasFront (value_of shape s text') mid.input; lacks = L; borrows = borrows; stands = Anything }) mid.input e new
      → Refuses (record { could = HasFields shape start before.last before.left old.input; lacks = MayLack (fields_memory shape) old.input; borrows = borrows; stands = Anything }) old.input e new
  value_not_read {E} {start} {s} {before} {now_left} {old} {now} {mid} L borrows new e key text' is i k may r =
      let same = same_reader (stays_both i.same k.takes.same) in
      refusal_carried Anything Anything old.input mid.input new e same
      (λ h. subst (λ x. HasFront (value_of shape s x) mid.input) (sym is) (fields_value key k.some k.takes (i.has h))) (λ x. lacks_before (fields_memory shape) same.lends (may x)) (λ x. x) (λ b l g. tt) r

  pub one_more_field : {start s next : S} {before now_left with_key after : AccessorState} {old now mid new : DeState} (key text' : List ℕ) → text' ≡ key → FieldsSoFar start before old now_left s now → KeyRead now_left.last now_left.left now key mid
      → with_key ≡ record now_left { left = now_left.left - 1; last = Some key; owes_value = true } → after ≡ record with_key { owes_value = false } → new.failed ≡ false
      → TakesFront (value_of shape s text') mid.input next new.input → FieldsSoFar start before old after next new
  one_more_field {start} {s} {next} {before} {now_left} {with_key} {after} {old} {now} {mid} {new} key text' text_is i k is is' f w' =
      let w = subst (λ x. TakesFront (value_of shape s x) mid.input next new.input) text_is w' in
      let both : after ≡ record now_left { left = now_left.left - 1; last = Some key; owes_value = false } = is' ∙ ap (λ (c : AccessorState). record c { owes_value = false }) is in
      let less : after.left ≡ now_left.left - 1 = ap (λ (c : AccessorState). c.left) both in
      let last : after.last ≡ Some key = ap (λ (c : AccessorState). c.last) both in
      record {
        sound = f;
        is_map = ap (λ (c : AccessorState). c.is_map) both ∙ i.is_map;
        in_turn = ap (λ (c : AccessorState). c.owes_value) both;
        steps = ap (λ (c : AccessorState). c.steps) both ∙ i.steps;
        fewer = omega (arith, less, i.fewer);
        same = stays_both i.same (stays_both k.takes.same w.same);
        has = λ h. subst (λ n. HasFields shape next after.last n new.input) (sym less) (subst (λ l. HasFields shape next l (now_left.left - 1) new.input) (sym last) (fields_others key k.some k.takes w (i.has h)));
        takes = λ count end to t. as_count (omega (arith, less, k.some, i.fewer)) (i.takes (count + 1) end to (fields_taken key k.follows k.takes w (subst (λ l. TakesFields shape next l count new.input end to) last t)));
        stands = λ b l.
            let p = i.stands b l in
            let q = k.takes.taken p.1 p.4 in
            let u = w.taken q.0 q.3 in
            let r = one_passed p.0 b p.1 q.0 u.1 before.last now_left.last key u.0 p.2 q.1 k.follows u.2 in
            (r.0, u.1, subst (λ x. PassesEntries r.0 b before.last u.1 x) (sym last) r.1, omega (arith, less, k.some, p.3, r.2), u.5);
      }

  -- no entries are taken from those left
  pub no_more_fields : (s : S) (last : Option (List ℕ)) (r : Reading) → TakesFields shape s last 0 r s r
  no_more_fields s last r = record {
    taken = λ b l. (no_entries, b, refl, nothing last, record { well_formed = tt; spellable = tt; is = refl }, refl, omega arith, l);
    same = stays r;
  }
    where
      nothing : (last : Option (List ℕ)) → AllFollow last no_entries
      nothing None = tt
      nothing (Some k) = tt

  pub all_fields_read : {start s : S} {before now_left after : AccessorState} {old now : DeState} (mid new : DeState) → FieldsSoFar start before old now_left s now → now_left.left ≡ 0 → after ≡ now_left → mid.input ≡ now.input → new.input ≡ with_steps (mid.input.steps + after.steps) mid.input
      → (now : Reading) × TakesFields shape start before.last before.left old.input s now × (new.input ≡ with_steps (now.steps + before.steps) now)
  all_fields_read {start} {s} {before} {now_left} {after} {old} {now} mid new i none is same back =
      let end = subst (TakesFields shape s now_left.last 0 now.input s) (sym same) (no_more_fields s now_left.last now.input) in
      let steps : after.steps ≡ before.steps = ap (λ (c : AccessorState). c.steps) is ∙ i.steps in
      (mid.input, as_count (omega (arith, none, i.fewer)) (i.takes 0 s mid.input end), back ∙ ap (λ n. with_steps (mid.input.steps + n) mid.input) steps)

  -- ---- the whole map

  module _ (start : S) where
    pub map_has_fields : {old mid : Reading} {count : ℕ} → Enters 5 count old mid → HasFront (fields_of shape start) old → HasFields shape start None count mid
    map_has_fields {old} {mid} {count} n h = by h.tree h.front h.accepted h.within
      where
        by : (t : Tree) → IsFront h.bytes t h.rest → is_some (view_fields shape.take start t) ≡ true → need_fields shape.need t ≤ old.steps → HasFields shape start None count mid
        by (mapping es) f a w = entries_entered es n h.left f a (omega (arith, w, n.takes.same.steps))
        by _ f a w = absurd (cc a)

    pub typed_map_taken : {old mid now new : Reading} {count : ℕ} {s : S} → Enters 5 count old mid → TakesFields shape start None count mid s now → new ≡ with_steps (now.steps + 1) now → TakesFront (fields_of shape start) old s new
    typed_map_taken {old} {mid} {now} {new} {count} {s} n r back = record {
      taken = λ b l.
          let k = n.takes.taken b l in
          let q = r.taken k.0 k.2 in (
            mapping q.0,
            q.1,
            subst (λ x. IsFront x (mapping q.0) q.1) (ap (λ m. head 5 m ++ k.0) q.2 ∙ sym k.1) (map_closed k.0 q.1 q.0 (omega (arith, q.2, n.fits)) q.4),
            q.5,
            omega (arith, q.6, n.takes.same.steps, n.step),
            ap (λ (r : Reading). r.left) back ∙ q.7,
          );
      same = left_again n r.same back;
    }

    -- all that is left is read of a map that was begun
    pub entries_read : {T E : Type 0} (meaning : T → S) (old mid new : DeState) (name : List ℕ) (a : Accessor) (result : Result T (DecodeError E)) → Call (BeginsItems {E = E} 5 name 1) old (Ok a) mid
        → ReadsEntriesLeft meaning shape start (accessor_state a) mid result new → ReadsValue meaning (fields_of shape start) old result new
    entries_read {T} {E} meaning old mid new name a (Ok v) h r f =
        let k = call_answered (BeginsItems 5 name 1) old mid a h in
        let one : a.steps ≡ 1 = ap (λ (c : AccessorState). c.steps) k.2.0 in
        let none : (accessor_state a).last ≡ None = ap (λ (c : AccessorState). c.last) k.2.0 in
        (r.0, typed_map_taken k.2.2 (subst (λ l. TakesFields shape start l a.left mid.input (meaning v) r.1) none r.2) (r.3 ∙ ap (λ n. with_steps (r.1.steps + n) r.1) one))
    entries_read {T} {E} meaning old mid new name a (Err e) h r f =
        let k = call_answered (BeginsItems 5 name 1) old mid a h in
        let none : (accessor_state a).last ≡ None = ap (λ (c : AccessorState). c.last) k.2.0 in
        refusal_carried Anything Anything old.input mid.input new.input e record { faults = k.2.2.takes.same.faults; lends = k.2.2.takes.same.lends }
        (λ x. subst (λ l. HasFields shape start l a.left mid.input) (sym none) (map_has_fields k.2.2 x)) (lacks_before (fields_memory shape) k.2.2.takes.same.lends) (λ x. x) (λ b l g. tt) r

    -- all that is left is read of a map that a variant holds
    pub held_entries_read : {T E : Type 0} (meaning : T → S) (name : List ℕ) (e : EnumState) (old mid new : DeState) (a : Accessor) (result : Result T (DecodeError E)) → Call (BeginsHeld {E = E} 5 name e) old (Ok a) mid
        → ReadsEntriesLeft meaning shape start (accessor_state a) mid result new → ReadsFieldsHeld meaning (fields_of shape start) e old result new
    held_entries_read {T} {E} meaning name e old mid new a result h r f = by e.in_map refl (call_answered (BeginsHeld 5 name e) old mid a h).2 result r
      where
        by : (m : Bool) → e.in_map ≡ m → MatchBool m (BeginsItems {E = E} 5 name (e.steps + 1) old.input (Ok a) mid.input) ⊥ → (result : Result T (DecodeError E)) → ReadsEntriesLeft meaning shape start (accessor_state a) mid result new
            → IfOk result (λ v. new.failed ≡ false) × MatchResult result
            (λ v. (e.in_map ≡ true) × ((now : Reading) × TakesFront (fields_of shape start) old.input (meaning v) now × (new.input ≡ with_steps (now.steps + e.steps) now)))
            (λ x. MatchBool m (RefusesRead (HasFront (fields_of shape start) old.input) (fields_of shape start) old.input x new.input) (IsOtherForm e x × (new.input ≡ old.input)))
        by false is k result r = absurd k
        by true is k (Ok v) r =
            let steps : a.steps ≡ e.steps + 1 = ap (λ (c : AccessorState). c.steps) k.0 in
            let none : (accessor_state a).last ≡ None = ap (λ (c : AccessorState). c.last) k.0 in
            let taken = typed_map_taken {new = with_steps (r.1.steps + 1) r.1} k.2 (subst (λ l. TakesFields shape start l a.left mid.input (meaning v) r.1) none r.2) refl in
            let all : r.1.steps + a.steps ≡ r.1.steps + 1 + e.steps = omega (arith, steps) in
            (r.0, (is, (with_steps (r.1.steps + 1) r.1, taken, r.3 ∙ ap (λ n. with_steps n r.1) all)))
        by true is k (Err x) r =
            let none : (accessor_state a).last ≡ None = ap (λ (c : AccessorState). c.last) k.0 in (
              tt,
              refusal_carried Anything Anything old.input mid.input new.input x record { faults = k.2.takes.same.faults; lends = k.2.takes.same.lends }
                  (λ y. subst (λ l. HasFields shape start l a.left mid.input) (sym none) (map_has_fields k.2 y)) (lacks_before (fields_memory shape) k.2.takes.same.lends) (λ y. y) (λ b l g. tt) r,
            )
