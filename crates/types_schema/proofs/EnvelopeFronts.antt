-- A map of a tag and of the content that it tells, read entry by entry.
use Rattle.std.proofs.Common.{◌≡◌, ℕ, ◌+◌, ◌-◌, ◌<◌, ◌≤◌, Bool, true, false, List, ◌++◌, refl, sym, ap, ap₂, ◌∙◌, subst, arith, append_assoc, zero-le, Option, None, Some, is_some, option_map, Result, Ok, Err, IsErrAnd, MatchResult, if◌then◌else◌, bytes_eq, codes}
use Rattle.std.proofs.lemmas.Slice.Eq.{bytes_eq-Decides}
use Rattle.std.specs.Prelude.{⊤}
use Rattle.dagcbor_core.specs.Head.{head}
use Rattle.dagcbor_heads.specs.Reading.{Reading, with_steps}
use Rattle.dagcbor_heads.specs.Refusals.{RefusesOrLacksMemoryUnlent, Refuses}
use Rattle.dagcbor_core.specs.declared.error.DecodeError.{DecodeError}
use Rattle.dagcbor_core.specs.declared.error.DecodeError.TheVariants.{Msg, LengthMismatch}
use Rattle.dagcbor_core.specs.declared.name.Name.{Name}
use Rattle.dagcbor_core.specs.Names.{Names}
use Rattle.dagcbor_heads.proofs.Taking.{stays, stays_both}
use Rattle.dagcbor_heads.proofs.Refusing.{as_refusal, SameReader, refusal_carried}
use Rattle.ipld_tree.specs.Tree.{Tree, text, mapping, Entries, no_entries, entry}
use Rattle.ipld_tree.specs.Spelling.{IsFront, AreEntryFronts, entries_spelling}
use Rattle.ipld_tree.proofs.Fronts.{front_unique, map_opened, entry_opened, entry_closed}
use Rattle.dagcbor_items.specs.Entering.{Enters}
use Rattle.dagcbor_items.specs.Places.{Follows}
use Rattle.dagcbor_items.specs.Shapes.{Shape, cow_leaf, view_text, unless_lent}
use Rattle.dagcbor_items.specs.TypedReads.{RefusesRead, HasFront, TakesFront, MayLack, Anything}
use Rattle.dagcbor_items.specs.Untyped.{TakesItem}
use Rattle.dagcbor_items.proofs.Maps.{map_closed}
use Rattle.dagcbor_read.specs.Accessors.{AccessorState, accessor_state, fresh, HasHeadOf, BeginsItems, EndsItems, LeavesUnread, with_key, with_value}
use Rattle.dagcbor_read.specs.Deserializers.{DeState, Call}
use Rattle.dagcbor_read.specs.Values.{ReadsPart, ReadsValue}
use Rattle.dagcbor_read.specs.declared.access.accessor.Accessor.{Accessor}
use Rattle.dagcbor_read.specs.EnumViews.{EnumShape, part_of}
use Rattle.dagcbor_read.proofs.Progressing.{call_answered, call_told}
use Rattle.dagcbor_read.proofs.FieldPlaces.{takes_as, front_as}
use Rattle.dagcbor_read.proofs.ItemRows.{same_reader, left_again}
use Rattle.dagcbor_read.proofs.Passing.{or_left, or_right, lacks_before, lacks_unlent}
use Rattle.types_schema.specs.Envelopes.{view_envelope, need_envelope, envelope_of, HasNamedKey, ReadsNamedKey}

-- ---- a key that is known beforehand

-- no key was left, or it was another key
pub key_refused_by_name : {E : Type 0} (L B : Type 0) (name : List ℕ) (before : AccessorState) (old new : Reading) (message : Name) (e : DecodeError E) → e ≡ Msg message → new.faults ≡ old.faults → (HasNamedKey name before old → ⊥)
    → Refuses (record { could = HasNamedKey name before old; lacks = L; borrows = B; stands = Anything }) old e new
key_refused_by_name {E} L B name before old new message e is same never = subst (λ x. Refuses {E = E} (record { could = HasNamedKey name before old; lacks = L; borrows = B; stands = Anything }) old x new) (sym is) (same, never, λ b l. tt)

pub other_key : {name key : List ℕ} {before : AccessorState} {old mid : Reading} → TakesItem 1 old (text key) mid → (key ≡ name → ⊥) → HasNamedKey name before old → ⊥
other_key {name} {key} {before} {old} {mid} a n h =
    let t = a.taken h.has.bytes h.has.left in
    let same = front_unique h.has.bytes t.0 h.has.rest (text key) (text h.has.key) t.1 h.has.front in
    let is : key ≡ h.has.key = cc same.0 in
    n (is ∙ h.is)

-- ---- what is at the front

then_some : {V : Type 0} (b : Bool) (o : Option V) → is_some (if b then o else None) ≡ true → (b ≡ true) × (is_some o ≡ true)
then_some true o a = (refl, a)
then_some false o a = absurd (cc a)

text_of : (t : Tree) (k : List ℕ) → view_text t ≡ Some k → t ≡ text k
text_of (text s) k e = ap (λ x. text x) (cc e)
text_of _ k e = absurd (cc e)

module _ {V : Type 0} (tag content : List ℕ) (shape : EnumShape V) where
  abbrev Envelope : Shape Tree V
  Envelope = envelope_of tag content shape

  -- the two entries
  abbrev two : List ℕ → Tree → Entries
  two name value = entry tag (text name) (entry content value no_entries)

  record IsTwo (t : Tree) : Type 0 where
    name : List ℕ
    value : Tree
    is : t ≡ mapping (two name value)
    accepted : is_some (shape.part name value) ≡ true

  is_two : (t : Tree) → is_some (view_envelope tag content shape.part t) ≡ true → IsTwo t
  is_two (mapping (entry k (text name) (entry l t no_entries))) a =
      let p = then_some (bytes_eq k tag) (if bytes_eq l content then shape.part name t else None) a in
      let q = then_some (bytes_eq l content) (shape.part name t) p.1 in
      let first : k ≡ tag = (bytes_eq-Decides k tag).0 p.0 in
      let second : l ≡ content = (bytes_eq-Decides l content).0 q.0 in
      record { name = name; value = t; is = ap₂ (λ x y. mapping (entry x (text name) (entry y t no_entries))) first second; accepted = q.1 }
  is_two _ a = absurd (cc a)

  shows_two : (name : List ℕ) (value : Tree) → view_envelope tag content shape.part (mapping (two name value)) ≡ shape.part name value
  shows_two name value = ap₂ (λ x y. if x then if y then shape.part name value else None else None) ((bytes_eq-Decides tag tag).1 refl) ((bytes_eq-Decides content content).1 refl)

  -- after the head
  pub record AtTag (count : ℕ) (r : Reading) : Type 0 where
    pub bytes : List ℕ
    pub rest : List ℕ
    pub name : List ℕ
    pub value : Tree
    pub left : r.left ≡ Some bytes
    pub counted : count ≡ 2
    pub fronts : AreEntryFronts bytes (two name value) rest
    pub accepted : is_some (shape.part name value) ≡ true
    pub within : shape.need name value ≤ r.steps

  -- after the tag's key
  pub record AtName (r : Reading) : Type 0 where
    pub bytes : List ℕ
    pub following : List ℕ
    pub rest : List ℕ
    pub name : List ℕ
    pub value : Tree
    pub left : r.left ≡ Some bytes
    pub front : IsFront bytes (text name) following
    pub follows : Follows (Some tag) content
    pub fronts : AreEntryFronts following (entry content value no_entries) rest
    pub accepted : is_some (shape.part name value) ≡ true
    pub within : shape.need name value ≤ r.steps

  -- after the tag
  pub record AtContent (name : List ℕ) (r : Reading) : Type 0 where
    pub bytes : List ℕ
    pub rest : List ℕ
    pub value : Tree
    pub left : r.left ≡ Some bytes
    pub follows : Follows (Some tag) content
    pub fronts : AreEntryFronts bytes (entry content value no_entries) rest
    pub accepted : is_some (shape.part name value) ≡ true
    pub within : shape.need name value ≤ r.steps

  -- an envelope begins with the head of a map
  pub begins : {r : Reading} → HasFront Envelope r → HasHeadOf 5 r
  begins {r} h =
      let t = is_two h.tree h.accepted in
      let f = subst (λ x. IsFront h.bytes x h.rest) t.is h.front in
      let inside = entries_spelling (two t.name t.value) in
      let need : need_envelope shape.need h.tree ≡ 1 + shape.need t.name t.value = ap (need_envelope shape.need) t.is in
      record {
        count = 2;
        rest = inside ++ h.rest;
        fits = omega arith;
        left = h.left ∙ ap Some (f.is ∙ append_assoc (head 5 2) inside h.rest);
        step = omega (arith, h.within, need);
      }

  pub at_tag : {old mid : Reading} {count : ℕ} → Enters 5 count old mid → HasFront Envelope old → AtTag count mid
  at_tag {old} {mid} {count} n h =
      let t = is_two h.tree h.accepted in
      let f = subst (λ x. IsFront h.bytes x h.rest) t.is h.front in
      let k = n.takes.taken h.bytes h.left in
      let o = map_opened h.bytes k.0 h.rest count (two t.name t.value) n.fits f k.1 in
      let need : need_envelope shape.need h.tree ≡ 1 + shape.need t.name t.value = ap (need_envelope shape.need) t.is in
      record { bytes = k.0; rest = h.rest; name = t.name; value = t.value; left = k.2; counted = sym o.0; fronts = o.1; accepted = t.accepted; within = omega (arith, h.within, need, n.takes.same.steps) }

  pub has_tag : {mid : Reading} {count : ℕ} {before : AccessorState} → before.left ≡ count → before.last ≡ None → AtTag count mid → HasNamedKey tag before mid
  has_tag {mid} {count} {before} left last s =
      let p = entry_opened s.bytes s.rest tag (text s.name) (entry content s.value no_entries) s.fronts in
      record {
        some = omega (arith, left, s.counted);
        has = record { bytes = s.bytes; key = tag; rest = p.0; left = s.left; front = p.1; follows = subst (λ l. Follows l tag) (sym last) tt };
        is = refl;
      }

  pub at_name : {mid now : Reading} {count : ℕ} → TakesItem 1 mid (text tag) now → AtTag count mid → AtName now
  at_name {mid} {now} {count} a s =
      let p = entry_opened s.bytes s.rest tag (text s.name) (entry content s.value no_entries) s.fronts in
      let t = a.taken s.bytes s.left in
      let same = front_unique s.bytes t.0 p.0 (text tag) (text tag) t.1 p.1 in
      record {
        bytes = p.0;
        following = entries_spelling (entry content s.value no_entries) ++ s.rest;
        rest = s.rest;
        name = s.name;
        value = s.value;
        left = t.3 ∙ ap Some same.1;
        front = p.2;
        follows = p.3;
        fronts = p.4;
        accepted = s.accepted;
        within = omega (arith, s.within, a.same.steps);
      }

  pub has_name : {r : Reading} → AtName r → HasFront (cow_leaf view_text) r
  has_name {r} s = record { bytes = s.bytes; tree = text s.name; rest = s.following; left = s.left; front = s.front; accepted = refl; within = zero-le }

  pub at_content : {mid now : Reading} {name : List ℕ} → TakesFront (cow_leaf view_text) mid name now → AtName mid → AtContent name now
  at_content {mid} {now} {name} a s =
      let t = a.taken s.bytes s.left in
      let same = front_unique s.bytes t.1 s.following t.0 (text s.name) t.2 s.front in
      let both : text name ≡ text s.name = sym (text_of t.0 name t.3) ∙ same.0 in
      let is : name ≡ s.name = cc both in
      let much = ap (λ x. shape.need x s.value) is in
      record {
        bytes = s.following;
        rest = s.rest;
        value = s.value;
        left = t.5 ∙ ap Some same.1;
        follows = s.follows;
        fronts = s.fronts;
        accepted = ap (λ x. is_some (shape.part x s.value)) is ∙ s.accepted;
        within = omega (arith, s.within, much, a.same.steps);
      }

  pub has_content : {r : Reading} {name : List ℕ} {before : AccessorState} → 0 < before.left → before.last ≡ Some tag → AtContent name r → HasNamedKey content before r
  has_content {r} {name} {before} some last s =
      let p = entry_opened s.bytes s.rest content s.value no_entries s.fronts in
      record {
        some = some;
        has = record { bytes = s.bytes; key = content; rest = p.0; left = s.left; front = p.1; follows = subst (λ l. Follows l content) (sym last) s.follows };
        is = refl;
      }

  pub has_value : {mid now : Reading} {name : List ℕ} → TakesItem 1 mid (text content) now → AtContent name mid → HasFront (part_of shape name) now
  has_value {mid} {now} {name} a s =
      let p = entry_opened s.bytes s.rest content s.value no_entries s.fronts in
      let t = a.taken s.bytes s.left in
      let same = front_unique s.bytes t.0 p.0 (text content) (text content) t.1 p.1 in
      record { bytes = p.0; tree = s.value; rest = s.rest; left = t.3 ∙ ap Some same.1; front = p.2; accepted = s.accepted; within = omega (arith, s.within, a.same.steps) }

  -- ---- all of it was read

  pub envelope_taken : {old entered at_name at_second at_value read new : Reading} {count : ℕ} {name : List ℕ} {v : V} → Enters 5 count old entered → count ≡ 2
      → TakesItem 1 entered (text tag) at_name → TakesFront (cow_leaf view_text) at_name name at_second → Follows (Some tag) content → TakesItem 1 at_second (text content) at_value
      → TakesFront (part_of shape name) at_value v read → new ≡ with_steps (read.steps + 1) read → TakesFront Envelope old v new
  envelope_taken {old} {entered} {at_name} {at_second} {at_value} {read} {new} {count} {name} {v} n two_are first told follows second value back = record {
    taken = λ b l.
        let k = n.takes.taken b l in
        let p = first.taken k.0 k.2 in
        let q = told.taken p.0 p.3 in
        let r = second.taken q.1 q.5 in
        let u = value.taken r.0 r.3 in
        let name_front = subst (λ x. IsFront p.0 x q.1) (text_of q.0 name q.3) q.2 in
        let inner = entry_closed q.1 r.0 u.1 u.1 content u.0 no_entries r.1 u.2 tt (record { well_formed = tt; spellable = tt; is = refl }) in
        let outer = entry_closed k.0 p.0 q.1 u.1 tag (text name) (entry content u.0 no_entries) p.1 name_front follows inner in (
          mapping (two name u.0),
          u.1,
          subst (λ x. IsFront x (mapping (two name u.0)) u.1) (ap (λ m. head 5 m ++ k.0) (sym two_are) ∙ sym k.1) (map_closed k.0 u.1 (two name u.0) (omega arith) outer),
          shows_two name u.0 ∙ u.3,
          omega (arith, u.4, n.takes.same.steps, n.step, first.same.steps, told.same.steps, second.same.steps),
          ap (λ (x : Reading). x.left) back ∙ u.5,
        );
    same = left_again n (stays_both first.same (stays_both told.same (stays_both second.same value.same))) back;
  }

  -- ---- the calls, one after another

  -- the map was begun
  pub record AtFirstKey (old : DeState) (entries : AccessorState) (now : DeState) : Type 0 where
    pub accessor : Accessor
    pub is : accessor_state accessor ≡ entries
    pub begun : (accessor_state accessor ≡ fresh accessor.name true accessor.left 1) × Names accessor.name (codes "map") × Enters 5 accessor.left old.input now.input
    pub enters : Enters 5 entries.left old.input now.input
    pub last : entries.last ≡ None
    pub steps : entries.steps ≡ 1
    pub sound : now.failed ≡ false

  -- the tag's key was read
  pub record AtTold (old : DeState) (entries : AccessorState) (now : DeState) : Type 0 where
    pub before : AccessorState
    pub mid : DeState
    pub begun : AtFirstKey old before mid
    pub key : TakesItem 1 mid.input (text tag) now.input
    pub after : entries ≡ with_key tag before
    pub some : 0 < before.left
    pub sound : now.failed ≡ false

  -- the tag was read
  pub record AtSecondKey (name : List ℕ) (old : DeState) (entries : AccessorState) (now : DeState) : Type 0 where
    pub before : AccessorState
    pub mid : DeState
    pub begun : AtTold old before mid
    pub told : TakesFront (cow_leaf view_text) mid.input name now.input
    pub after : entries ≡ with_value before
    pub sound : now.failed ≡ false

  -- the content's key was read
  pub record AtHeld (name : List ℕ) (old : DeState) (entries : AccessorState) (now : DeState) : Type 0 where
    pub before : AccessorState
    pub mid : DeState
    pub begun : AtSecondKey name old before mid
    pub key : TakesItem 1 mid.input (text content) now.input
    pub follows : Follows before.last content
    pub after : entries ≡ with_key content before
    pub some : 0 < before.left
    pub sound : now.failed ≡ false

  pub at_first_key : (E : Type 0) (old now : DeState) (a : Accessor) → Call (BeginsItems {E = E} 5 (codes "map") 1) old (Ok a) now → AtFirstKey old (accessor_state a) now
  at_first_key E old now a h =
      let k = call_answered (BeginsItems 5 (codes "map") 1) old now a h in
      record { accessor = a; is = refl; begun = k.2; enters = k.2.2; last = ap (λ (c : AccessorState). c.last) k.2.0; steps = ap (λ (c : AccessorState). c.steps) k.2.0; sound = k.1 }

  pub at_told : (E : Type 0) {old mid now : DeState} {before entries : AccessorState} → AtFirstKey old before mid → ReadsNamedKey {E = E} tag before mid (Ok tt) entries now → AtTold old entries now
  at_told E {old} {mid} {now} {before} {entries} s h = record { before = before; mid = mid; begun = s; key = h.3; after = h.4; some = h.1; sound = h.0 }

  pub at_second_key : (E : Type 0) {T : Type 0} (meaning : T → List ℕ) {old mid now : DeState} {before entries : AccessorState} (v : T) → AtTold old before mid → Call (ReadsPart {E = E} meaning (cow_leaf view_text)) mid (Ok v) now → entries ≡ with_value before → AtSecondKey (meaning v) old entries now
  at_second_key E meaning {old} {mid} {now} {before} {entries} v s h after =
      let k = call_answered (ReadsPart meaning (cow_leaf view_text)) mid now v h in
      record { before = before; mid = mid; begun = s; told = k.2; after = after; sound = k.1 }

  pub at_held : (E : Type 0) {name : List ℕ} {old mid now : DeState} {before entries : AccessorState} → AtSecondKey name old before mid → ReadsNamedKey {E = E} content before mid (Ok tt) entries now → AtHeld name old entries now
  at_held E {name} {old} {mid} {now} {before} {entries} s h = record { before = before; mid = mid; begun = s; key = h.3; follows = h.2; after = h.4; some = h.1; sound = h.0 }

  -- ---- what is at the front then

  same_begun : {old now : DeState} {entries : AccessorState} → AtFirstKey old entries now → SameReader old.input now.input
  same_begun s = record { faults = s.enters.takes.same.faults; lends = s.enters.takes.same.lends }

  same_told : {old now : DeState} {entries : AccessorState} → AtTold old entries now → SameReader old.input now.input
  same_told s = let k = same_begun s.begun in record { faults = s.key.same.faults ∙ k.faults; lends = s.key.same.lends ∙ k.lends }

  same_second : {name : List ℕ} {old now : DeState} {entries : AccessorState} → AtSecondKey name old entries now → SameReader old.input now.input
  same_second s = let k = same_told s.begun in record { faults = s.told.same.faults ∙ k.faults; lends = s.told.same.lends ∙ k.lends }

  same_held : {name : List ℕ} {old now : DeState} {entries : AccessorState} → AtHeld name old entries now → SameReader old.input now.input
  same_held s = let k = same_second s.begun in record { faults = s.key.same.faults ∙ k.faults; lends = s.key.same.lends ∙ k.lends }

  name_stands : {old now : DeState} {entries : AccessorState} → AtTold old entries now → HasFront Envelope old.input → AtName now.input
  name_stands s h = at_name s.key (at_tag s.begun.enters h)

  content_stands : {name : List ℕ} {old now : DeState} {entries : AccessorState} → AtSecondKey name old entries now → HasFront Envelope old.input → AtContent name now.input
  content_stands s h = at_content s.told (name_stands s.begun h)

  held_stands : {name : List ℕ} {old now : DeState} {entries : AccessorState} → AtHeld name old entries now → HasFront Envelope old.input → HasFront (part_of shape name) now.input
  held_stands s h = has_value s.key (content_stands s.begun h)

  -- ---- refusals

  unlent : (old mid : Reading) → mid.lends ≡ old.lends → mid.lends ≡ false → MayLack Envelope.memory old
  unlent old mid same h = or_left (unless_lent old.lends) (shape.memory old.lends) (lacks_unlent same h)

  pub tag_refused : {E : Type 0} (B : Type 0) {old mid : DeState} {entries : AccessorState} (new : Reading) (e : DecodeError E) → AtFirstKey old entries mid → RefusesOrLacksMemoryUnlent (HasNamedKey tag entries mid.input) Anything mid.input e new
      → Refuses (record { could = HasFront Envelope old.input; lacks = MayLack Envelope.memory old.input; borrows = B; stands = Anything }) old.input e new
  tag_refused {E} B {old} {mid} new e s r = refusal_carried Anything Anything old.input mid.input new e (same_begun s) (λ h. has_tag refl s.last (at_tag s.enters h))
      (unlent old.input mid.input (same_begun s).lends) (λ x. absurd x) (λ b l g. tt) r

  pub name_refused : {E T : Type 0} (B : Type 0) (meaning : T → List ℕ) {old mid : DeState} {entries : AccessorState} (new : DeState) (e : DecodeError E) → AtTold old entries mid → Call (ReadsPart meaning (cow_leaf view_text)) mid (Err e) new
      → Refuses (record { could = HasFront Envelope old.input; lacks = MayLack Envelope.memory old.input; borrows = B; stands = Anything }) old.input e new.input
  name_refused {E} B meaning {old} {mid} new e s h = refusal_carried Anything Anything old.input mid.input new.input e (same_told s) (λ f. has_name (name_stands s f))
      (λ x. or_left (unless_lent old.input.lends) (shape.memory old.input.lends) (ap unless_lent (sym (same_told s).lends) ∙ x)) (λ x. absurd (cc x)) (λ b l g. tt)
      (call_told (ReadsPart meaning (cow_leaf view_text)) mid new (Err e) s.sound h).1

  pub content_refused : {E : Type 0} (B : Type 0) {name : List ℕ} {old mid : DeState} {entries : AccessorState} (new : Reading) (e : DecodeError E) → AtSecondKey name old entries mid → RefusesOrLacksMemoryUnlent (HasNamedKey content entries mid.input) Anything mid.input e new
      → Refuses (record { could = HasFront Envelope old.input; lacks = MayLack Envelope.memory old.input; borrows = B; stands = Anything }) old.input e new
  content_refused {E} B {name} {old} {mid} {entries} new e s r = refusal_carried Anything Anything old.input mid.input new e (same_second s)
      (λ h. has_content (some h) last (content_stands s h)) (unlent old.input mid.input (same_second s).lends) (λ x. absurd x) (λ b l g. tt) r
    where
      last : entries.last ≡ Some tag
      last = ap (λ (c : AccessorState). c.last) s.after ∙ ap (λ (c : AccessorState). c.last) s.begun.after

      some : HasFront Envelope old.input → 0 < entries.left
      some h =
          let two = (at_tag s.begun.begun.enters h).counted in
          let less : s.before.left ≡ s.begun.before.left - 1 = ap (λ (c : AccessorState). c.left) s.begun.after in
          let same : entries.left ≡ s.before.left = ap (λ (c : AccessorState). c.left) s.after in
          omega (arith, two, less, same)

  pub held_refused : {E : Type 0} {name text' : List ℕ} {old mid : DeState} {entries : AccessorState} (new : Reading) (e : DecodeError E) → text' ≡ name → AtHeld name old entries mid
      → (mid.failed ≡ false → RefusesRead (HasFront (part_of shape text') mid.input) (part_of shape text') mid.input e new)
      → Refuses (record { could = HasFront Envelope old.input; lacks = MayLack Envelope.memory old.input; borrows = shape.wants_loan ≡ true; stands = Anything }) old.input e new
  held_refused {E} {name} {text'} {old} {mid} new e is s r = refusal_carried Anything Anything old.input mid.input new e (same_held s) (λ h. subst (λ x. HasFront (part_of shape x) mid.input) (sym is) (held_stands s h))
      (λ x. or_right (unless_lent old.input.lends) (shape.memory old.input.lends) (lacks_before shape.memory (same_held s).lends x)) (λ x. x) (λ b l g. tt) (r s.sound)

  unread_refused : {E could : Type 0} (L B : Type 0) (c : AccessorState) (old new : Reading) (e : DecodeError E) → LeavesUnread c e → new.faults ≡ old.faults → (could → ⊥) → Refuses (record { could = could; lacks = L; borrows = B; stands = Anything }) old e new
  unread_refused L B c old new (LengthMismatch name expect value) h same never = (same, never, λ b l. tt)
  unread_refused L B c old new _ h same never = absurd h

  pub end_refused : {E T : Type 0} (B : Type 0) {name text' : List ℕ} {old mid now : DeState} {entries : AccessorState} (meaning : T → V) (v : T) (end : AccessorState) (new : DeState) (e : DecodeError E) → text' ≡ name → AtHeld name old entries mid
      → ReadsValue {E = E} meaning (part_of shape text') mid (Ok v) now → end ≡ with_value entries → Call (EndsItems end) now (Err e) new
      → Refuses (record { could = HasFront Envelope old.input; lacks = MayLack Envelope.memory old.input; borrows = B; stands = Anything }) old.input e new.input
  end_refused {E} {T} B {name} {text'} {old} {mid} {now} {entries} meaning v end new e is s r after h =
      let k = r s.sound in
      let q = (call_told (EndsItems end) now new (Err e) k.0 h).1 in
      unread_refused _ _ end old.input new.input e q.1 (ap (λ (x : Reading). x.faults) q.2 ∙ k.1.same.faults ∙ (same_held s).faults) (λ f.
      let two = (at_tag s.begun.begun.begun.enters f).counted in
      let first : s.begun.before.left ≡ s.begun.begun.before.left - 1 = ap (λ (c : AccessorState). c.left) s.begun.begun.after in
      let same : s.before.left ≡ s.begun.before.left = ap (λ (c : AccessorState). c.left) s.begun.after in
      let second : entries.left ≡ s.before.left - 1 = ap (λ (c : AccessorState). c.left) s.after in
      let last : end.left ≡ entries.left = ap (λ (c : AccessorState). c.left) after in
      absurd (omega (arith, two, first, same, second, last, q.0)))

  -- ---- the result

  pub envelope_read : (E : Type 0) {T : Type 0} {name text' : List ℕ} {old mid now : DeState} {entries : AccessorState} (meaning : T → V) (v : T) (end : AccessorState) (new : DeState) → text' ≡ name → AtHeld name old entries mid
      → ReadsValue {E = E} meaning (part_of shape text') mid (Ok v) now → end ≡ with_value entries → Call (EndsItems {E = E} end) now (Ok tt) new
      → (new.failed ≡ false) × TakesFront Envelope old.input (meaning v) new.input
  envelope_read E {T} {name} {text'} {old} {mid} {now} {entries} meaning v end new is s r after h =
      let k = r s.sound in
      let q = call_answered (EndsItems end) now new tt h in
      let first : s.begun.before.left ≡ s.begun.begun.before.left - 1 = ap (λ (c : AccessorState). c.left) s.begun.begun.after in
      let same : s.before.left ≡ s.begun.before.left = ap (λ (c : AccessorState). c.left) s.begun.after in
      let second : entries.left ≡ s.before.left - 1 = ap (λ (c : AccessorState). c.left) s.after in
      let last : end.left ≡ entries.left = ap (λ (c : AccessorState). c.left) after in
      let two : s.begun.begun.before.left ≡ 2 = omega (arith, first, same, second, last, q.2.0, s.some, s.begun.begun.some) in
      let following : s.before.last ≡ Some tag = ap (λ (c : AccessorState). c.last) s.begun.after ∙ ap (λ (c : AccessorState). c.last) s.begun.begun.after in
      let steps : end.steps ≡ 1 = ap (λ (c : AccessorState). c.steps) after ∙ ap (λ (c : AccessorState). c.steps) s.after ∙ ap (λ (c : AccessorState). c.steps) s.begun.after ∙ ap (λ (c : AccessorState). c.steps) s.begun.begun.after ∙ s.begun.begun.begun.steps in (
        q.1,
        envelope_taken s.begun.begun.begun.enters two s.begun.begun.key s.begun.told (subst (λ l. Follows l content) following s.follows) s.key
            (subst (λ x. TakesFront (part_of shape x) mid.input (meaning v) now.input) is k.1) (q.2.1 ∙ ap (λ n. with_steps (now.input.steps + n) now.input) steps),
      )

-- ---- a member of a type of its own

module _ {V W : Type 0} (shape : EnumShape V) (f : W → V) (own : Shape Tree W) {T : Type 0} (E : Type 0) (meaning : T → W) where
  -- what it holds was read
  pub content_read : (old new : DeState) {k : List ℕ} (name : List ℕ) (w : T) → k ≡ name → ((t : Tree) → shape.part name t ≡ option_map f (own.view t)) → ((t : Tree) → shape.need name t ≡ own.need t)
      → old.failed ≡ false → Call (ReadsPart {E = E} meaning own) old (Ok w) new
      → (new.failed ≡ false) × TakesFront (part_of shape k) old.input (f (meaning w)) new.input
  content_read old new {k} name w is same much sound h =
      let r = call_answered (ReadsPart meaning own) old new w h in
      let takes = takes_as f own (part_of shape name) same much r.2 in
      (r.1, subst (λ x. TakesFront (part_of shape x) old.input (f (meaning w)) new.input) (sym is) takes)

  -- what it holds was refused
  pub content_not_read : (borrows : Type 0) (old new : DeState) {k : List ℕ} (name : List ℕ) (r : DecodeError E) → k ≡ name → ((t : Tree) → shape.part name t ≡ option_map f (own.view t)) → ((t : Tree) → shape.need name t ≡ own.need t)
      → (own.wants_loan ≡ true → borrows) → ((lends : Bool) → own.memory lends ≡ true → shape.memory lends ≡ true) → old.failed ≡ false → Call (ReadsPart meaning own) old (Err r) new
      → Refuses (record { could = HasFront (part_of shape k) old.input; lacks = MayLack shape.memory old.input; borrows = borrows; stands = Anything }) old.input r new.input
  content_not_read borrows old new {k} name r is same much lent may sound h = refusal_carried Anything Anything old.input old.input new.input r (same_reader (stays old.input))
      (λ i. front_as f own (part_of shape name) same much (subst (λ x. HasFront (part_of shape x) old.input) is i)) (may old.input.lends) lent (λ b l g. tt)
      (call_told (ReadsPart meaning own) old new (Err r) sound h).1

-- from what was shown, and from what was refused, without naming the type's meaning
module _ {V W : Type 0} (shape : EnumShape V) (f : W → V) (own : Shape Tree W) (E T : Type 0) where
  pub content_shown : (old new : DeState) {k : List ℕ} (name : List ℕ) (w : T) (shown : W) → k ≡ name → ((t : Tree) → shape.part name t ≡ option_map f (own.view t)) → ((t : Tree) → shape.need name t ≡ own.need t)
      → old.failed ≡ false → Call {E = E} (λ old r new. MatchResult r (λ v. TakesFront own old shown new) (λ e. ⊤)) old (Ok w) new
      → (new.failed ≡ false) × TakesFront (part_of shape k) old.input (f shown) new.input
  content_shown old new {k} name w shown is same much sound h =
      let r = call_answered (λ old r new. MatchResult r (λ v. TakesFront own old shown new) (λ e. ⊤)) old new w h in
      let takes = takes_as f own (part_of shape name) same much r.2 in
      (r.1, subst (λ x. TakesFront (part_of shape x) old.input (f shown) new.input) (sym is) takes)

  -- which `?` passes on
  pub content_handed_on : {U : Type 0} (P : U → Type 0) (borrows : Type 0) (old new : DeState) {k : List ℕ} (name : List ℕ) (r : DecodeError E) (result : Result U (DecodeError E)) → IsErrAnd result (λ y. y ≡ r) → k ≡ name
      → ((t : Tree) → shape.part name t ≡ option_map f (own.view t)) → ((t : Tree) → shape.need name t ≡ own.need t) → (own.wants_loan ≡ true → borrows) → ((lends : Bool) → own.memory lends ≡ true → shape.memory lends ≡ true) → old.failed ≡ false
      → Call {T = T} (λ old r new. MatchResult r (λ v. ⊤) (λ e. RefusesRead (HasFront own old) own old e new)) old (Err r) new
      → MatchResult result P (λ e. Refuses (record { could = HasFront (part_of shape k) old.input; lacks = MayLack shape.memory old.input; borrows = borrows; stands = Anything }) old.input e new.input)
  content_handed_on P borrows old new {k} name r result told is same much lent may sound h =
      as_refusal P (λ e. Refuses {E = E} (record { could = HasFront (part_of shape k) old.input; lacks = MayLack shape.memory old.input; borrows = borrows; stands = Anything }) old.input e new.input) result r told
      (refusal_carried Anything Anything old.input old.input new.input r (same_reader (stays old.input))
      (λ i. front_as f own (part_of shape name) same much (subst (λ x. HasFront (part_of shape x) old.input) is i)) (may old.input.lends) lent (λ b l g. tt)
      (call_told (λ old r new. MatchResult r (λ v. ⊤) (λ e. RefusesRead (HasFront own old) own old e new)) old new (Err r) sound h).1)
