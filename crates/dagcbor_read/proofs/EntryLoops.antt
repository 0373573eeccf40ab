-- A map that a loop over its keys reads: what each step of such a loop cites.
use Rattle.std.proofs.Common.{◌≡◌, ℕ, ◌+◌, ◌-◌, Global, List, Bool, true, false, refl, sym, ◌∙◌, ap, subst, Option, None, Some, option_map, Ok, Err, MatchResult}
use Rattle.std.specs.Prelude.{⊤}
use Rattle.std.specs.Cow.{cow_str_bytes}
use Rattle.std.specs.declared.borrow.CowStr.{CowStr}
use Rattle.dagcbor_heads.specs.Reading.{with_steps}
use Rattle.dagcbor_heads.specs.Refusals.{Refuses}
use Rattle.dagcbor_core.specs.declared.error.DecodeError.{DecodeError}
use Rattle.ipld_tree.specs.Tree.{Tree, any_need}
use Rattle.dagcbor_read.specs.Deserializers.{DeState, Call}
use Rattle.dagcbor_items.specs.TypedReads.{HasFront, TakesFront, MayLack, Anything}
use Rattle.dagcbor_items.specs.Shapes.{ignored_item, unless_lent, Shape}
use Rattle.dagcbor_items.specs.Entering.{Enters}
use Rattle.dagcbor_read.specs.Accessors.{AccessorState, accessor_state, BeginsItems, ReadsNextKey, after_key, with_value, EndsItems}
use Rattle.dagcbor_read.specs.declared.access.accessor.Accessor.{Accessor}
use Rattle.dagcbor_read.specs.Collections.{HasFields, TakesFields, fields_of, fields_memory, value_of, FieldShape}
use Rattle.dagcbor_read.proofs.Progressing.{call_answered, call_told}
use Rattle.dagcbor_read.proofs.Answered.{KeyRead, key_read, no_key, after_some_key, after_no_key}
use Rattle.dagcbor_read.proofs.Answered as answer
use Rattle.dagcbor_read.proofs.EntryRows.{FieldsSoFar, no_field_so_far, key_not_read, value_not_read, one_more_field, all_fields_read, map_has_fields, typed_map_taken}
use Rattle.dagcbor_read.proofs.FieldPlaces.{takes_as, front_as}
use Rattle.dagcbor_heads.proofs.Refusing.{refusal_carried}
use Rattle.dagcbor_read.proofs.Passing.{or_left, lacks_before}

module _ {S : Type 0} (shape : FieldShape S) (start : S) where
  -- A map was begun, and entries of it were read, which changed the state to s: the loop's
  -- invariant.
  pub record MapSoFar (old : DeState) (entries : AccessorState) (s : S) (now : DeState) : Type 0 where
    pub before : AccessorState
    pub mid : DeState
    pub enters : Enters 5 before.left old.input mid.input
    pub first : before.last ≡ None
    pub one : before.steps ≡ 1
    pub fields : FieldsSoFar shape start before mid entries s now

  -- the key of an entry was read besides, and its value is to be read
  pub record MapAtValue (old : DeState) (with_key : AccessorState) (key : List ℕ) (s : S) (mid : DeState) : Type 0 where
    pub entries : AccessorState
    pub now : DeState
    pub so_far : MapSoFar old entries s now
    pub read : KeyRead entries.last entries.left now key mid
    pub after : with_key ≡ record entries { left = entries.left - 1; last = Some key; owes_value = true }

  -- before the loop
  pub map_begun : (E : Type 0) (old mid : DeState) (name : List ℕ) (a : Accessor) → Call (BeginsItems {E = E} 5 name 1) old (Ok a) mid → MapSoFar old (accessor_state a) start mid
  map_begun E old mid name a h =
      let k = call_answered (BeginsItems 5 name 1) old mid a h in
      record {
        before = accessor_state a;
        mid = mid;
        enters = k.2.2;
        first = ap (λ (c : AccessorState). c.last) k.2.0;
        one = ap (λ (c : AccessorState). c.steps) k.2.0;
        fields = no_field_so_far shape start (accessor_state a) mid k.1 (ap (λ (c : AccessorState). c.is_map) k.2.0) (ap (λ (c : AccessorState). c.owes_value) k.2.0);
      }

  -- what the rest of the map refuses, the map refuses
  map_refused : {E : Type 0} {old now : DeState} {entries : AccessorState} {s : S} (B : Type 0) (new : DeState) (e : DecodeError E) (i : MapSoFar old entries s now)
      → Refuses (record { could = HasFields shape start i.before.last i.before.left i.mid.input; lacks = MayLack (fields_memory shape) i.mid.input; borrows = B; stands = Anything }) i.mid.input e new.input → Refuses (record { could = HasFront (fields_of shape start) old.input; lacks = MayLack (fields_memory shape) old.input; borrows = B; stands = Anything }) old.input e new.input
  map_refused {E} {old} {now} B new e i r = refusal_carried Anything Anything old.input i.mid.input new.input e record { faults = i.enters.takes.same.faults; lends = i.enters.takes.same.lends }
      (λ x. subst (λ l. HasFields shape start l i.before.left i.mid.input) (sym i.first) (map_has_fields shape start i.enters x)) (lacks_before (fields_memory shape) i.enters.takes.same.lends) (λ x. x) (λ b l g. tt) r

  -- the next key was refused
  pub map_key_refused : {old : DeState} {entries : AccessorState} {s : S} (E B : Type 0) (now new : DeState) (e : DecodeError E) → MapSoFar old entries s now → Call (ReadsNextKey entries.last entries.left) now (Err e) new
      → Refuses (record { could = HasFront (fields_of shape start) old.input; lacks = MayLack (fields_memory shape) old.input; borrows = B; stands = Anything }) old.input e new.input
  map_key_refused E B now new e i h =
      let k = answer.key_refused E _ _ now new e i.fields.sound h in
      map_refused B new e i (key_not_read shape B _ _ i.fields k.0 k.1)

  -- the next key was read
  pub at_value : {old : DeState} {entries : AccessorState} {s : S} (E : Type 0) (now mid : DeState) (o : Option (CowStr Global)) (k : CowStr Global) (with_key : AccessorState) → MapSoFar old entries s now → o ≡ Some k
      → Call (ReadsNextKey {E = E} entries.last entries.left) now (Ok o) mid → with_key ≡ after_key {E = E} (Ok o) entries → MapAtValue old with_key (cow_str_bytes k) s mid
  at_value {old} {entries} {s} E now mid o k with_key i is h after = record { entries = entries; now = now; so_far = i; read = key_read E _ _ now mid o k is h; after = after_some_key E o k _ _ is after }

  -- Its value was refused: the value of this name is read into the state by f.
  pub map_value_refused : {old : DeState} {with_key : AccessorState} {key : List ℕ} {s : S} (E B borrows T : Type 0) {V : Type 0} (part : Shape Tree V) (name : List ℕ) (f : V → S) (mid new : DeState) (e : DecodeError E) → MapAtValue old with_key key s mid
      → key ≡ name → ((t : Tree) → shape.take s name t ≡ option_map f (part.view t)) → ((t : Tree) → shape.need name t ≡ part.need t) → (borrows → B) → ((lends : Bool) → part.memory lends ≡ true → fields_memory shape lends ≡ true)
      → Call {T = T} (λ old r new. MatchResult r (λ v. ⊤) (λ e. Refuses (record { could = HasFront part old; lacks = MayLack part.memory old; borrows = borrows; stands = Anything }) old e new)) mid (Err e) new
      → Refuses (record { could = HasFront (fields_of shape start) old.input; lacks = MayLack (fields_memory shape) old.input; borrows = B; stands = Anything }) old.input e new.input
  map_value_refused {old} {with_key} {key} {s} E B borrows T part name f mid new e at is same as_much lent may h =
      let r = (call_told (λ old r new. MatchResult r (λ v. ⊤) (λ e. Refuses (record { could = HasFront part old; lacks = MayLack part.memory old; borrows = borrows; stands = Anything }) old e new)) mid new (Err e) at.read.sound h).1 in
      let r' = refusal_carried Anything Anything mid.input mid.input new.input e record { faults = refl; lends = refl } (λ front. front_as f part (value_of shape s name) same as_much front) (may mid.input.lends) lent (λ b l g. tt) r in
      map_refused B new e at.so_far (value_not_read shape (MayLack (fields_memory shape) mid.input) B new.input e key name (sym is) at.so_far.fields at.read (λ x. x) r')

  -- Its value was read, and shows this.
  pub value_read : {old : DeState} {with_key after : AccessorState} {key : List ℕ} {s next : S} (E T : Type 0) {V : Type 0} (part : Shape Tree V) (name : List ℕ) (f : V → S) (mid new : DeState) (v : T) (shown : V) → MapAtValue old with_key key s mid
      → key ≡ name → ((t : Tree) → shape.take s name t ≡ option_map f (part.view t)) → ((t : Tree) → shape.need name t ≡ part.need t) → next ≡ f shown → after ≡ with_value with_key
      → Call {E = E} (λ old r new. MatchResult r (λ v. TakesFront part old shown new) (λ e. ⊤)) mid (Ok v) new → MapSoFar old after next new
  value_read {old} {with_key} {after} {key} {s} {next} E T part name f mid new v shown at is same as_much is_next is_after h =
      let r = call_answered (λ old r new. MatchResult r (λ v. TakesFront part old shown new) (λ e. ⊤)) mid new v h in
      let w = takes_as f part (value_of shape s name) same as_much r.2 in
      let i = at.so_far in
      let fields = one_more_field shape key name (sym is) i.fields at.read at.after is_after r.1 w in
      record { before = i.before; mid = i.mid; enters = i.enters; first = i.first; one = i.one; fields = subst (λ x. FieldsSoFar shape start i.before i.mid after x new) (sym is_next) fields }

  -- No field has the key, and skipping its value was refused.
  pub skip_refused : {old : DeState} {with_key : AccessorState} {key : List ℕ} {s : S} (E B T : Type 0) (mid new : DeState) (e : DecodeError E) → MapAtValue old with_key key s mid → ((t : Tree) → shape.take s key t ≡ Some s) → ((t : Tree) → shape.need key t ≡ any_need t)
      → Call {T = T} (λ old r new. MatchResult r (λ v. ⊤) (λ e. Refuses (record { could = HasFront ignored_item old; lacks = MayLack unless_lent old; borrows = false ≡ true; stands = Anything }) old e new)) mid (Err e) new
      → Refuses (record { could = HasFront (fields_of shape start) old.input; lacks = MayLack (fields_memory shape) old.input; borrows = B; stands = Anything }) old.input e new.input
  skip_refused {old} {with_key} {key} {s} E B T mid new e at same as_much h = map_value_refused E B (false ≡ true) T ignored_item key (λ _. s) mid new e at refl same as_much (λ l. absurd (cc l)) (λ lends. or_left (unless_lent lends) (shape.memory lends)) h

  -- Its value was passed over.
  pub value_skipped : {old : DeState} {with_key after : AccessorState} {key : List ℕ} {s : S} (E T : Type 0) (mid new : DeState) (v : T) → MapAtValue old with_key key s mid → ((t : Tree) → shape.take s key t ≡ Some s) → ((t : Tree) → shape.need key t ≡ any_need t)
      → after ≡ with_value with_key → Call {E = E} (λ old r new. MatchResult r (λ v. TakesFront ignored_item old tt new) (λ e. ⊤)) mid (Ok v) new → MapSoFar old after s new
  value_skipped {old} {with_key} {after} {key} {s} E T mid new v at same as_much is_after h = value_read E T ignored_item key (λ _. s) mid new v tt at refl same as_much refl is_after h

  -- after the loop: no key was left, and the map was ended
  pub map_ended : {old : DeState} {entries : AccessorState} {s : S} (E : Type 0) (now mid new : DeState) (o : Option (CowStr Global)) (after : AccessorState) (u : Unit {0}) → MapSoFar old entries s now → o ≡ None
      → Call (ReadsNextKey {E = E} entries.last entries.left) now (Ok o) mid → after ≡ after_key {E = E} (Ok o) entries → Call (EndsItems {E = E} after) mid (Ok u) new
      → (new.failed ≡ false) × TakesFront (fields_of shape start) old.input s new.input
  map_ended {old} {entries} {s} E now mid new o after u i is h is_after end =
      let k = no_key E _ _ now mid o is h in
      let e = call_answered (EndsItems after) mid new u end in
      let a = all_fields_read shape mid new i.fields k.1 (after_no_key E o _ _ is is_after) k.2 e.2.1 in
      let fields = subst (λ l. TakesFields shape start l i.before.left i.mid.input s a.0) i.first a.1 in
      (e.1, typed_map_taken shape start i.enters fields (a.2 ∙ ap (λ n. with_steps (a.0.steps + n) a.0) i.one))
