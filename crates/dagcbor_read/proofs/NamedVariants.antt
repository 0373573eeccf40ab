-- Reading an enum: its variant's name, or a map from the name to what the variant holds.
use Rattle.std.proofs.Common.{◌≡◌, inl, inr, ℕ, ◌+◌, ◌-◌, ◌*◌, ◌/◌, ◌<◌, ◌≤◌, List, [], ◌∷◌, ◌++◌, Bool, true, false, Global, refl, sym, ◌∙◌, ap, subst, arith, append_assoc, zero-le, ◌⊎◌, Option, Some, None, is_some, option_map, Result, Ok, Err, MatchBool}
use Rattle.std.specs.Cow.{cow_str_bytes}
use Rattle.std.specs.declared.borrow.CowStr.{CowStr}
use Rattle.dagcbor_core.specs.Head.{head}
use Rattle.dagcbor_heads.specs.Reading.{Reading, with_steps}
use Rattle.dagcbor_heads.specs.Fronts.{Takes, ShowsByte}
use Rattle.dagcbor_heads.specs.Refusals.{Refuses}
use Rattle.dagcbor_core.specs.declared.error.DecodeError.{DecodeError}
use Rattle.dagcbor_core.specs.declared.error.DecodeError.TheVariants.{Msg, Mismatch}
use Rattle.dagcbor_core.specs.declared.name.Name.{Name}
use Rattle.dagcbor_core.proofs.Heads.{head_whole}
use Rattle.dagcbor_heads.proofs.Taking.{stays_both}
use Rattle.ipld_tree.specs.Tree.{Tree, text, mapping, no_entries, entry}
use Rattle.ipld_tree.specs.Spelling.{IsFront, entries_spelling}
use Rattle.ipld_tree.proofs.Fronts.{front_first, front_unique, map_opened, entry_opened, entry_closed}
use Rattle.dagcbor_items.specs.ReadCauses.{TextCause}
use Rattle.dagcbor_items.specs.Shapes.{view_text, leaf, unless_lent, Shape}
use Rattle.dagcbor_read.specs.EnumViews.{view_enum, need_enum, HasVariant, TakesVariant, ReadsVariant, EnumShape, enum_of, part_of}
use Rattle.dagcbor_read.specs.Deserializers.{DeState, Call}
use Rattle.dagcbor_items.specs.TypedReads.{RefusesRead, HasFront, TakesFront, MayLack, Anything}
use Rattle.dagcbor_read.specs.Values.{ReadsValue}
use Rattle.dagcbor_read.specs.Enums.{EnumState, enum_state, TakesForm, HasStepEnum, StepEnumCause, SpendsEnum, ReadsName, IsOtherForm, ReadsHeld, ReadsFieldsHeld}
use Rattle.dagcbor_read.specs.declared.access.enum_accessor.EnumAccessor.{EnumAccessor}
use Rattle.dagcbor_read.proofs.Progressing.{call_answered, call_told}
use Rattle.dagcbor_read.proofs.FieldPlaces.{front_as}
use Rattle.dagcbor_heads.proofs.Refusing.{SameReader, refusal_carried}
use Rattle.dagcbor_read.proofs.Passing.{Entered, given_back, or_left, or_right, lacks_before, lacks_unlent}

-- ---- texts and the first byte

text_of : (t : Tree) (k : List ℕ) → view_text t ≡ Some k → t ≡ text k
text_of (text s) k e = ap (λ x. text x) (cc e)
text_of _ k e = absurd (cc e)

-- the head of a map of one pair is one byte
one_pair : head 5 1 ≡ 161 ∷ []
one_pair = head_whole 5 1 (omega arith)

none_some : {V : Type 0} {o : Option V} → o ≡ None → is_some o ≡ true → ⊥
none_some {V} {o} n e = let both : is_some o ≡ false = ap is_some n in absurd (cc (sym both ∙ e))

-- ---- an enum that was begun, for a step

-- what `deserialize_enum` did
pub Spent : EnumState → Reading → Reading → Type 0
Spent e old mid = (e.steps ≡ 1) × (0 < old.steps) × (mid.steps < mid.budget) × TakesForm e (with_steps (old.steps - 1) old) mid

enum_entered : (e : EnumState) {old mid : Reading} → Spent e old mid → Entered old mid
unfolding Spent
enum_entered e {old} {mid} s = by e.in_map s.3
  where
    by : (b : Bool) → MatchBool b ((e.first ≡ 0xa1) × Takes (with_steps (old.steps - 1) old) (0xa1 ∷ []) mid) ((e.first / 32 ≡ 3) × ShowsByte (with_steps (old.steps - 1) old) e.first mid) → Entered old mid
    by true h = let a = h.1.same in record { steps = omega (arith, a.steps, s.1); budget = a.budget; lends = a.lends; faults = a.faults; through = a.through }
    by false h = let a = h.1.same in record { steps = omega (arith, a.steps, s.1); budget = a.budget; lends = a.lends; faults = a.faults; through = a.through }

-- the bytes after the beginning, and those before it
record Opened (e : EnumState) (b : List ℕ) (mid : Reading) : Type 0 where
  following : List ℕ
  left : mid.left ≡ Some following
  form : ((e.in_map ≡ true) × (b ≡ 161 ∷ following)) ⊎ ((e.in_map ≡ false) × (b ≡ following) × ((more : List ℕ) × (b ≡ e.first ∷ more)) × (e.first / 32 ≡ 3))

enum_opened : (e : EnumState) (old mid : Reading) (b : List ℕ) → Spent e old mid → old.left ≡ Some b → Opened e b mid
unfolding Spent
enum_opened e old mid b s l = by e.in_map refl s.3
  where
    by : (m : Bool) → e.in_map ≡ m → MatchBool m ((e.first ≡ 0xa1) × Takes (with_steps (old.steps - 1) old) (0xa1 ∷ []) mid) ((e.first / 32 ≡ 3) × ShowsByte (with_steps (old.steps - 1) old) e.first mid) → Opened e b mid
    by true is h = let k = h.1.taken b l in record { following = k.0; left = k.2; form = inl (is, k.1) }
    by false is h = record { following = b; left = h.1.kept b l; form = inr (is, refl, h.1.starts b l, h.0) }

-- ---- an enum whose variant was named

pub record Named (e : EnumState) (k : List ℕ) (old now : Reading) : Type 0 where
  pub mid : Reading
  pub spent : Spent e old mid
  pub name : TakesFront (leaf view_text) mid k now

same_named : {e : EnumState} {k : List ℕ} {old now : Reading} → Named e k old now → SameReader old now
same_named {e} n = let a = enum_entered e n.spent in record { faults = n.name.same.faults ∙ a.faults; lends = n.name.same.lends ∙ a.lends }

refusal_passed : {E could could' lacks lacks' borrows borrows' : Type 0} {e : EnumState} {k : List ℕ} {old now : Reading} (new : Reading) (r : DecodeError E) → Named e k old now → (could' → could) → (lacks → lacks') → (borrows → borrows')
    → Refuses (record { could = could; lacks = lacks; borrows = borrows; stands = Anything }) now r new → Refuses (record { could = could'; lacks = lacks'; borrows = borrows'; stands = Anything }) old r new
refusal_passed {E} {could} {could'} {lacks} {lacks'} {borrows} {borrows'} {e} {k} {old} {now} new r n c m w h = refusal_carried Anything Anything old now new r (same_named n) c m w (λ b l g. tt) h

other_form_refused : {E could : Type 0} (lacks borrows : Type 0) (old new : Reading) (e : EnumState) (r : DecodeError E) → IsOtherForm e r → new.faults ≡ old.faults → (could → ⊥) → Refuses (record { could = could; lacks = lacks; borrows = borrows; stands = Anything }) old r new
other_form_refused lacks borrows old new e (Mismatch n f) h same never = (same, never, λ b l. tt)
other_form_refused lacks borrows old new e _ h same never = absurd h

-- a refusal with a message of the type's own
pub told_refused : {E could : Type 0} (lacks borrows : Type 0) (old : Reading) {message : Name} (r : DecodeError E) (new : Reading) → r ≡ Msg message → new.faults ≡ old.faults → (could → ⊥) → Refuses (record { could = could; lacks = lacks; borrows = borrows; stands = Anything }) old r new
told_refused {E} {could} lacks borrows old {message} r new is same never = subst (λ x. Refuses (record { could = could; lacks = lacks; borrows = borrows; stands = Anything }) old x new) (sym is) (same, never, λ b l. tt)

module _ {V : Type 0} (shape : EnumShape V) where
  record UnitFront (r : Reading) : Type 0 where
    bytes : List ℕ
    name : List ℕ
    rest : List ℕ
    left : r.left ≡ Some bytes
    front : IsFront bytes (text name) rest
    accepted : is_some (shape.unit name) ≡ true
    step : 1 ≤ r.steps

  record PartFront (r : Reading) : Type 0 where
    after_head : List ℕ
    after_name : List ℕ
    name : List ℕ
    value : Tree
    rest : List ℕ
    left : r.left ≡ Some (161 ∷ after_head)
    name_front : IsFront after_head (text name) after_name
    value_front : IsFront after_name value rest
    accepted : is_some (shape.part name value) ≡ true
    within : 1 + shape.need name value ≤ r.steps

  part_front : (r : Reading) (all rest k : List ℕ) (t : Tree) → r.left ≡ Some all → IsFront all (mapping (entry k t no_entries)) rest → is_some (shape.part k t) ≡ true → 1 + shape.need k t ≤ r.steps → PartFront r
  part_front r all rest k t l f a w =
      let tail = entries_spelling (entry k t no_entries) ++ rest in
      let whole : all ≡ head 5 1 ++ tail = f.is ∙ append_assoc (head 5 1) (entries_spelling (entry k t no_entries)) rest in
      let o = map_opened all tail rest 1 (entry k t no_entries) (omega arith) f whole in
      let p = entry_opened tail rest k t no_entries o.1 in
      record { after_head = tail; after_name = p.0; name = k; value = t; rest = rest; left = l ∙ ap Some (whole ∙ ap (λ h. h ++ tail) one_pair); name_front = p.1; value_front = p.2; accepted = a; within = w }

  of_tree : (r : Reading) (all rest : List ℕ) (t : Tree) → r.left ≡ Some all → IsFront all t rest → is_some (view_enum shape.unit shape.part t) ≡ true → need_enum shape.need t ≤ r.steps → UnitFront r ⊎ PartFront r
  of_tree r all rest (text k) l f a w = inl (record { bytes = all; name = k; rest = rest; left = l; front = f; accepted = a; step = w })
  of_tree r all rest (mapping (entry k t no_entries)) l f a w = inr (part_front r all rest k t l f a w)
  of_tree r all rest _ l f a w = absurd (cc a)

  by_form : {r : Reading} → HasFront (enum_of shape) r → UnitFront r ⊎ PartFront r
  by_form {r} h = of_tree r h.bytes h.rest h.tree h.left h.front h.accepted h.within

  can_begin : {r : Reading} → HasFront (enum_of shape) r → HasStepEnum r
  can_begin {r} h = elim (by_form h) [
    | inl u ↦
        let f = front_first u.bytes u.rest (text u.name) u.front in
        (record { byte = 32 * 3 + f.0; rest = f.1; left = u.left ∙ ap Some f.3; accepted = inr (omega (arith, f.2)) }, omega (arith, u.step))
    | inr p ↦ (record { byte = 161; rest = p.after_head; left = p.left; accepted = inl refl }, omega (arith, p.within))
  ]

  -- what follows the beginning
  Following : EnumState → Reading → Reading → Type 0
  Following e old mid = ((e.in_map ≡ false) × (u : UnitFront old) × (mid.left ≡ Some u.bytes)) ⊎ ((e.in_map ≡ true) × (p : PartFront old) × (mid.left ≡ Some p.after_head))

  after_unit : (e : EnumState) {old mid : Reading} → (u : UnitFront old) → Opened e u.bytes mid → Following e old mid
  unfolding Following
  after_unit e u o = elim o.form [
    | inl m ↦
        let f = front_first u.bytes u.rest (text u.name) u.front in
        let both : 161 ∷ o.following ≡ (32 * 3 + f.0) ∷ f.1 = sym m.1 ∙ f.3 in
        let first : 161 ≡ 32 * 3 + f.0 = cc both in
        absurd (omega (arith, first, f.2))
    | inr n ↦ inl (n.0, u, o.left ∙ ap Some (sym n.1))
  ]

  after_part : (e : EnumState) {old mid : Reading} → (p : PartFront old) → Opened e (161 ∷ p.after_head) mid → Following e old mid
  unfolding Following
  after_part e p o = elim o.form [
    | inl m ↦ inr (m.0, p, o.left ∙ ap Some (cc (sym m.1)))
    | inr n ↦
        let first : 161 ≡ e.first = cc n.2.1 in
        absurd (omega (arith, first, n.3))
  ]

  following : (e : EnumState) (old mid : Reading) → Spent e old mid → HasFront (enum_of shape) old → Following e old mid
  following e old mid s h = elim (by_form h) [
    | inl u ↦ after_unit e u (enum_opened e old mid u.bytes s u.left)
    | inr p ↦ after_part e p (enum_opened e old mid (161 ∷ p.after_head) s p.left)
  ]

  name_stands : (e : EnumState) {old mid : Reading} → Spent e old mid → HasFront (enum_of shape) old → HasFront (leaf view_text) mid
  unfolding Following
  name_stands e {old} {mid} s h = elim (following e old mid s h) [
    | inl u ↦ record { bytes = u.1.bytes; tree = text u.1.name; rest = u.1.rest; left = u.2; front = u.1.front; accepted = refl; within = zero-le }
    | inr p ↦ record { bytes = p.1.after_head; tree = text p.1.name; rest = p.1.after_name; left = p.2; front = p.1.name_front; accepted = refl; within = zero-le }
  ]

  -- a variant whose name was read is a unit, or its content comes after its name
  variant_stands : {e : EnumState} {k : List ℕ} {old now : Reading} → Named e k old now → HasFront (enum_of shape) old
      → ((e.in_map ≡ false) × (is_some (shape.unit k) ≡ true)) ⊎ ((e.in_map ≡ true) × HasFront (part_of shape k) now)
  unfolding Following
  variant_stands {e} {k} {old} {now} n h = elim (following e old n.mid n.spent h) [
    | inl u ↦
        let t = n.name.taken u.1.bytes u.2 in
        let same = front_unique u.1.bytes t.1 u.1.rest t.0 (text u.1.name) t.2 u.1.front in
        let both : text k ≡ text u.1.name = sym (text_of t.0 k t.3) ∙ same.0 in
        let name : k ≡ u.1.name = cc both in
        inl (u.0, ap (λ x. is_some (shape.unit x)) name ∙ u.1.accepted)
    | inr p ↦
        let t = n.name.taken p.1.after_head p.2 in
        let same = front_unique p.1.after_head t.1 p.1.after_name t.0 (text p.1.name) t.2 p.1.name_front in
        let both : text k ≡ text p.1.name = sym (text_of t.0 k t.3) ∙ same.0 in
        let name : k ≡ p.1.name = cc both in
        let much = ap (λ x. shape.need x p.1.value) name in
        let steps = (enum_entered e n.spent).steps in
        inr (
          p.0,
          record {
            bytes = t.1;
            tree = p.1.value;
            rest = p.1.rest;
            left = t.5;
            front = subst (λ x. IsFront x p.1.value p.1.rest) (sym same.1) p.1.value_front;
            accepted = ap (λ x. is_some (shape.part x p.1.value)) name ∙ p.1.accepted;
            within = omega (arith, p.1.within, steps, n.name.same.steps, much);
          },
        )
  ]

  -- ---- refusals

  pub not_begun : {E : Type 0} (borrows : Type 0) (name : List ℕ) (old new : DeState) (r : DecodeError E) → old.failed ≡ false → Call (SpendsEnum name) old (Err r) new
      → Refuses (record { could = HasFront (enum_of shape) old.input; lacks = MayLack (enum_of shape).memory old.input; borrows = borrows; stands = Anything }) old.input r new.input
  not_begun {E} borrows name old new r f h = refusal_carried (StepEnumCause name) Anything old.input old.input new.input r (record { faults = refl; lends = refl }) can_begin (λ x. absurd x) (λ x. absurd x) (λ b l g. tt)
      (call_told (SpendsEnum name) old new (Err r) f h).1.0

  -- there was no variant's name
  pub not_named : {E : Type 0} (borrows : Type 0) (name : List ℕ) (old mid new : DeState) (a : EnumAccessor) (r : DecodeError E) → Call (SpendsEnum {E = E} name) old (Ok a) mid → Call ReadsName mid (Err r) new
      → Refuses (record { could = HasFront (enum_of shape) old.input; lacks = MayLack (enum_of shape).memory old.input; borrows = borrows; stands = Anything }) old.input r new.input
  unfolding Spent
  not_named {E} borrows name old mid new a r h k =
      let s = call_answered (SpendsEnum name) old mid a h in
      let i = enum_entered (enum_state a) s.2 in
      refusal_carried (TextCause _) Anything old.input mid.input new.input r (record { faults = i.faults; lends = i.lends }) (name_stands (enum_state a) s.2) (λ x. or_left (unless_lent old.input.lends) (shape.memory old.input.lends) (lacks_unlent i.lends x)) (λ x. absurd x) (λ b l g. tt)
      (call_told ReadsName mid new (Err r) s.1 k).1

  -- ---- answers

  pub unit_taken : {e : EnumState} {k : List ℕ} {old now new : Reading} {v : V} → Named e k old now → (e.in_map ≡ false) × (new ≡ with_steps (now.steps + e.steps) now) → shape.unit k ≡ Some v
      → TakesFront (enum_of shape) old v new
  unfolding Spent
  unit_taken {e} {k} {old} {now} {new} {v} n h is =
      let i = enum_entered e n.spent in
      record {
        taken = λ b l.
            let o = enum_opened e old n.mid b n.spent l in
            let same : o.following ≡ b = elim o.form [ inl m ↦ absurd (cc (sym m.0 ∙ h.0)) | inr f ↦ sym f.1 ] in
            let t = n.name.taken o.following o.left in
            let name = text_of t.0 k t.3 in (
              t.0,
              t.1,
              subst (λ x. IsFront x t.0 t.1) same t.2,
              ap (view_enum shape.unit shape.part) name ∙ is,
              omega (arith, ap (need_enum shape.need) name, n.spent.1),
              ap (λ (x : Reading). x.left) h.1 ∙ t.5,
            );
        same = given_back i n.name.same n.spent.0 h.1;
      }

  -- the bytes of the map
  map_front : (following after_name rest k : List ℕ) (t : Tree) → IsFront following (text k) after_name → IsFront after_name t rest → IsFront (161 ∷ following) (mapping (entry k t no_entries)) rest
  map_front following after_name rest k t f g =
      let inside = entry_closed following after_name rest rest k t no_entries f g tt (record { well_formed = tt; spellable = tt; is = refl }) in
      record {
        well_formed = inside.well_formed;
        spellable = (omega arith, inside.spellable);
        is = ap (λ h. h ++ following) (sym one_pair) ∙ (ap (λ x. head 5 1 ++ x) inside.is ∙ sym (append_assoc (head 5 1) (entries_spelling (entry k t no_entries)) rest));
      }

  pub part_taken : {e : EnumState} {k : List ℕ} {old now after new : Reading} {v : V} → Named e k old now → e.in_map ≡ true → TakesFront (part_of shape k) now v after → new ≡ with_steps (after.steps + e.steps) after
      → TakesFront (enum_of shape) old v new
  unfolding Spent
  part_taken {e} {k} {old} {now} {after} {new} {v} n m a back =
      let i = enum_entered e n.spent in
      record {
        taken = λ b l.
            let o = enum_opened e old n.mid b n.spent l in
            let same : b ≡ 161 ∷ o.following = elim o.form [ inl f ↦ f.1 | inr f ↦ absurd (cc (sym m ∙ f.0)) ] in
            let t = n.name.taken o.following o.left in
            let u = a.taken t.1 t.5 in (
              mapping (entry k u.0 no_entries),
              u.1,
              subst (λ x. IsFront x (mapping (entry k u.0 no_entries)) u.1) (sym same) (map_front o.following t.1 u.1 k u.0 (subst (λ x. IsFront o.following x t.1) (text_of t.0 k t.3) t.2) u.2),
              u.3,
              omega (arith, u.4, n.name.same.steps, i.steps),
              ap (λ (x : Reading). x.left) back ∙ u.5,
            );
        same = given_back i (stays_both n.name.same a.same) n.spent.0 back;
      }

-- ---- calls

pub variant_named : (E : Type 0) (name : List ℕ) (old mid now : DeState) (a : EnumAccessor) (v : CowStr Global × EnumAccessor) → Call (SpendsEnum {E = E} name) old (Ok a) mid → Call (ReadsName {E = E}) mid (Ok v) now → v.1 ≡ a
    → (now.failed ≡ false) × Named (enum_state v.1) (cow_str_bytes v.0) old.input now.input
unfolding Spent
variant_named E name old mid now a v h k e =
    let s = call_answered (SpendsEnum name) old mid a h in
    let n = call_answered ReadsName mid now v k in
    (n.1, record { mid = mid.input; spent = subst (λ x. Spent (enum_state x) old.input mid.input) (sym e) s.2; name = n.2 })

module _ {V : Type 0} (shape : EnumShape V) where
  -- ---- the whole enum

  as_variant : {e : EnumState} {k : List ℕ} {old now : Reading} → Named e k old now → HasFront (enum_of shape) old → HasVariant shape k e now
  as_variant {e} {k} {old} {now} n h = elim (variant_stands shape n h) [
    | inl u ↦ subst (λ b. MatchBool b (HasFront (part_of shape k) now) (is_some (shape.unit k) ≡ true)) (sym u.0) u.1
    | inr p ↦ subst (λ b. MatchBool b (HasFront (part_of shape k) now) (is_some (shape.unit k) ≡ true)) (sym p.0) p.1
  ]

  enum_taken : {e : EnumState} {k : List ℕ} {old now new : Reading} {v : V} → Named e k old now → TakesVariant shape k e now v new → TakesFront (enum_of shape) old v new
  enum_taken {e} {k} {old} {now} {new} {v} n h = by e.in_map refl h
    where
      by : (m : Bool) → e.in_map ≡ m → MatchBool m ((end : Reading) × TakesFront (part_of shape k) now v end × (new ≡ with_steps (end.steps + e.steps) end)) ((shape.unit k ≡ Some v) × (new ≡ with_steps (now.steps + e.steps) now))
          → TakesFront (enum_of shape) old v new
      by true is t = part_taken shape n is t.1 t.2
      by false is t = unit_taken shape n (is, t.1) t.0

  pub enum_read : {T E : Type 0} (meaning : T → V) (name : List ℕ) (old mid now new : DeState) (a : EnumAccessor) (v : CowStr Global × EnumAccessor) (k : List ℕ) (result : Result T (DecodeError E))
      → Call (SpendsEnum {E = E} name) old (Ok a) mid → Call (ReadsName {E = E}) mid (Ok v) now → v.1 ≡ a → k ≡ cow_str_bytes v.0
      → ReadsVariant meaning shape k (enum_state v.1) now result new → ReadsValue meaning (enum_of shape) old result new
  enum_read {T} {E} meaning name old mid now new a v k (Ok w) h g same text_is r sound =
      let n = variant_named E name old mid now a v h g same in
      (r.0, enum_taken (subst (λ x. Named (enum_state v.1) x old.input now.input) (sym text_is) n.1) r.1)
  enum_read {T} {E} meaning name old mid now new a v k (Err x) h g same text_is r sound =
      let n = variant_named E name old mid now a v h g same in
      let m = subst (λ x. Named (enum_state v.1) x old.input now.input) (sym text_is) n.1 in
      refusal_passed new.input x m (as_variant m) (λ y. or_right (unless_lent old.input.lends) (shape.memory old.input.lends) (lacks_before shape.memory (same_named m).lends y)) (λ y. y) r

  -- ---- a variant that is its name alone

  -- no variant has the name
  pub unknown_variant : {E : Type 0} (borrows : Type 0) (e : EnumState) (old : Reading) {k : List ℕ} {message : Name} (r : DecodeError E) → r ≡ Msg message → shape.unit k ≡ None → ((t : Tree) → shape.part k t ≡ None)
      → Refuses (record { could = HasVariant shape k e old; lacks = MayLack shape.memory old; borrows = borrows; stands = Anything }) old r old
  unknown_variant borrows e old {k} r is none no_part = told_refused (MayLack shape.memory old) borrows old r old is refl (by e.in_map)
    where
      by : (b : Bool) → MatchBool b (HasFront (part_of shape k) old) (is_some (shape.unit k) ≡ true) → ⊥
      by true h = none_some (no_part h.tree) h.accepted
      by false h = none_some none h

  -- ---- a variant that holds a value of another type

  module _ {W : Type 0} (f : W → V) (own : Shape Tree W) {T : Type 0} (E : Type 0) (meaning : T → W) where
    pub fields_refused : (borrows : Type 0) (e : EnumState) (old new : DeState) {k : List ℕ} (name : List ℕ) (r : DecodeError E) → k ≡ name → shape.unit name ≡ None → ((t : Tree) → shape.part name t ≡ option_map f (own.view t)) → ((t : Tree) → shape.need name t ≡ own.need t)
        → (own.wants_loan ≡ true → borrows) → ((lends : Bool) → own.memory lends ≡ true → shape.memory lends ≡ true) → old.failed ≡ false → ReadsFieldsHeld meaning own e old (Err r) new
        → Refuses (record { could = HasVariant shape k e old.input; lacks = MayLack shape.memory old.input; borrows = borrows; stands = Anything }) old.input r new.input
    fields_refused borrows e old new {k} name r is none same much w may sound h = by e.in_map (h sound).1
      where
        by : (m : Bool) → MatchBool m (RefusesRead (HasFront own old.input) own old.input r new.input) (IsOtherForm e r × (new.input ≡ old.input))
            → Refuses (record { could = MatchBool m (HasFront (part_of shape k) old.input) (is_some (shape.unit k) ≡ true); lacks = MayLack shape.memory old.input; borrows = borrows; stands = Anything }) old.input r new.input
        by true g = refusal_carried Anything Anything old.input old.input new.input r (record { faults = refl; lends = refl })
            (λ i. front_as f own (part_of shape name) same much (subst (λ x. HasFront (part_of shape x) old.input) is i)) (may old.input.lends) w (λ b l x. tt) g
        by false g = other_form_refused (MayLack shape.memory old.input) borrows old.input new.input e r g.0 (ap (λ (x : Reading). x.faults) g.1) (λ i. none_some (ap shape.unit is ∙ none) i)

    -- by a call of the accessor
    pub held_refused : (borrows : Type 0) (e : EnumState) (old new : DeState) {k : List ℕ} (name : List ℕ) (r : DecodeError E) → k ≡ name → shape.unit name ≡ None → ((t : Tree) → shape.part name t ≡ option_map f (own.view t)) → ((t : Tree) → shape.need name t ≡ own.need t)
        → (own.wants_loan ≡ true → borrows) → ((lends : Bool) → own.memory lends ≡ true → shape.memory lends ≡ true) → old.failed ≡ false → Call (ReadsHeld meaning own e) old (Err r) new
        → Refuses (record { could = HasVariant shape k e old.input; lacks = MayLack shape.memory old.input; borrows = borrows; stands = Anything }) old.input r new.input
    held_refused borrows e old new name r is none same much w may sound h = fields_refused borrows e old new name r is none same much w may sound (λ f. (tt, (call_told (ReadsHeld meaning own e) old new (Err r) f h).1))
