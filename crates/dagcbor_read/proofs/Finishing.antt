-- A value that is made of what was read.
use Rattle.std.proofs.Common.{◌≡◌, Bool, true, false, sym, ap, ◌∙◌, subst, refl, Option, None, Some, option_and_then, is_some, Result, Ok, Err, MatchResult, IsErrAnd, MatchBool}
use Rattle.dagcbor_heads.specs.Reading.{Reading}
use Rattle.dagcbor_heads.specs.Refusals.{Refuses}
use Rattle.dagcbor_core.specs.declared.name.Name.{Name}
use Rattle.dagcbor_core.specs.declared.error.DecodeError.{DecodeError}
use Rattle.dagcbor_core.specs.declared.error.DecodeError.TheVariants.{Msg}
use Rattle.dagcbor_heads.proofs.Taking.{stays}
use Rattle.dagcbor_heads.proofs.Refusing.{passed_on, as_refusal}
use Rattle.ipld_tree.specs.Tree.{Tree}
use Rattle.ipld_tree.proofs.Fronts.{front_unique}
use Rattle.dagcbor_items.specs.TypedReads.{RefusesRead, HasFront, TakesFront, MayLack, Anything}
use Rattle.dagcbor_items.specs.Shapes.{Shape}
use Rattle.dagcbor_read.specs.Deserializers.{DeState}
use Rattle.dagcbor_read.specs.Enums.{EnumState, IsOtherForm, ReadsHeld, ReadsFieldsHeld}
use Rattle.dagcbor_read.specs.Collections.{finishing}

module _ {S V : Type 0} (shape : Shape Tree S) (finish : S → Option V) where
  -- what was read makes a value
  pub value_finished : {F A : Type 0} {old new : Reading} {s : S} {v : V} → (F → A × TakesFront shape old s new) → finish s ≡ Some v → F → A × TakesFront (finishing finish shape) old v new
  value_finished {F} {A} {old} {new} {s} {v} h is fresh =
      let k = h fresh in (
        k.0,
        record {
          taken = λ b l. (let t = k.1.taken b l in (t.0, t.1, t.2, ap (option_and_then finish) t.3 ∙ is, t.4, t.5));
          same = k.1.same;
        },
      )

  no_value : {o : Option S} {s : S} → o ≡ Some s → finish s ≡ None → is_some (option_and_then finish o) ≡ true → ⊥
  no_value {o} {s} e n a = let none : is_some (option_and_then finish o) ≡ false = ap (λ x. is_some (option_and_then finish x)) e ∙ ap is_some n in absurd (cc (sym a ∙ none))

  -- what was read makes no value
  pub value_unfinished : (B : Type 0) {F A E : Type 0} {old new : Reading} {s : S} {error : DecodeError E} → (kept : Name) × (error ≡ Msg kept) → finish s ≡ None → (F → A × TakesFront shape old s new) → F
      → Refuses (record { could = HasFront (finishing finish shape) old; lacks = MayLack shape.memory old; borrows = B; stands = Anything }) old error new
  value_unfinished B {F} {A} {E} {old} {new} {s} message none h fresh =
      let k = h fresh in
      let refuses : Refuses {E = E} (record { could = HasFront (finishing finish shape) old; lacks = MayLack shape.memory old; borrows = B; stands = Anything }) old (Msg message.0) new = (
        k.1.same.faults,
        λ front.
            let t = k.1.taken front.bytes front.left in
            let same = front_unique front.bytes front.rest t.1 front.tree t.0 front.front t.2 in
            no_value (ap shape.view same.0 ∙ t.3) none front.accepted,
        λ b l. tt,
      ) in
      subst (λ e. Refuses {E = E} (record { could = HasFront (finishing finish shape) old; lacks = MayLack shape.memory old; borrows = B; stands = Anything }) old e new) (sym message.1) refuses

  -- a part of it is missing, which `?` passes on
  pub missing : (B : Type 0) {F A E T : Type 0} (P : T → Type 0) {old new : Reading} {s : S} (result : Result T (DecodeError E)) {error : DecodeError E} → IsErrAnd result (λ y. y ≡ error) → (kept : Name) × (error ≡ Msg kept) → finish s ≡ None
      → (F → A × TakesFront shape old s new) → F → MatchResult result P (λ e. Refuses (record { could = HasFront (finishing finish shape) old; lacks = MayLack shape.memory old; borrows = B; stands = Anything }) old e new)
  missing B {F} {A} {E} {T} P {old} {new} {s} result {error} is message none h fresh = as_refusal P (λ e. Refuses (record { could = HasFront (finishing finish shape) old; lacks = MayLack shape.memory old; borrows = B; stands = Anything }) old e new) result error is (value_unfinished B message none h fresh)

  has_state : (o : Option S) → is_some (option_and_then finish o) ≡ true → is_some o ≡ true
  has_state None a = a
  has_state (Some s) a = refl

  -- it was not read
  pub not_read : (B : Type 0) (old new : Reading) {F E : Type 0} (error : DecodeError E) → (F → Refuses (record { could = HasFront shape old; lacks = MayLack shape.memory old; borrows = B; stands = Anything }) old error new) → F → Refuses (record { could = HasFront (finishing finish shape) old; lacks = MayLack shape.memory old; borrows = B; stands = Anything }) old error new
  not_read B old new error h fresh = passed_on Anything Anything old old new error (stays old)
      (λ front. record { bytes = front.bytes; tree = front.tree; rest = front.rest; left = front.left; front = front.front; accepted = has_state (shape.view front.tree) front.accepted; within = front.within })
      (λ x. x) (λ x. x) (λ b l. (b, l, λ x. x)) (h fresh)

  -- it was not read, which `?` passes on
  pub handed_on : (B : Type 0) {F E T : Type 0} (P : T → Type 0) (old new : Reading) (result : Result T (DecodeError E)) (error : DecodeError E) → IsErrAnd result (λ y. y ≡ error) → (F → Refuses (record { could = HasFront shape old; lacks = MayLack shape.memory old; borrows = B; stands = Anything }) old error new)
      → F → MatchResult result P (λ e. Refuses (record { could = HasFront (finishing finish shape) old; lacks = MayLack shape.memory old; borrows = B; stands = Anything }) old e new)
  handed_on B {F} {E} {T} P old new result error is h fresh = as_refusal P (λ e. Refuses (record { could = HasFront (finishing finish shape) old; lacks = MayLack shape.memory old; borrows = B; stands = Anything }) old e new) result error is (not_read B old new {F = F} error h fresh)

  -- what was read makes a value, or is refused
  pub finishes : {F A E T : Type 0} (B : Type 0) (meaning : T → V) {old new : Reading} {s : S} (result : Result T (DecodeError E))
      → MatchResult result (λ v. finish s ≡ Some (meaning v)) (λ e. (finish s ≡ None) × ((kept : Name) × (e ≡ Msg kept))) → (F → A × TakesFront shape old s new) → F
      → MatchResult result (λ v. A × TakesFront (finishing finish shape) old (meaning v) new) (λ e. Refuses (record { could = HasFront (finishing finish shape) old; lacks = MayLack shape.memory old; borrows = B; stands = Anything }) old e new)
  finishes B meaning (Ok v) h k fresh = value_finished k h fresh
  finishes B meaning (Err e) h k fresh = value_unfinished B h.1 h.0 k fresh

  -- ---- the same of the fields that a variant holds

  -- what was read makes a value, or is refused
  pub held_finishes : {E T U : Type 0} (state : T → S) (meaning : U → V) (e : EnumState) (old new : DeState) (s : T) (result : Result U (DecodeError E))
      → MatchResult result (λ v. finish (state s) ≡ Some (meaning v)) (λ x. (finish (state s) ≡ None) × ((kept : Name) × (x ≡ Msg kept)))
      → ReadsFieldsHeld {E = E} state shape e old (Ok s) new → ReadsFieldsHeld meaning (finishing finish shape) e old result new
  held_finishes state meaning e old new s (Ok v) is h fresh =
      let k = h fresh in
      let made = value_finished {F = Unit {0}} {A = Unit {0}} (λ u. (tt, k.1.1.1)) is tt in
      (k.0, (k.1.0, (k.1.1.0, made.1, k.1.1.2)))
  held_finishes {E} state meaning e old new s (Err x) is h fresh =
      let k = h fresh in
      let refuses : Reading → DecodeError E → Type 0 = λ now y. RefusesRead {E = E} (HasFront (finishing finish shape) old.input) shape old.input y now in
      let none : refuses k.1.1.0 (Msg is.1.0) = value_unfinished (shape.wants_loan ≡ true) {F = Unit {0}} {A = Unit {0}} {E = E} {error = Msg is.1.0} (is.1.0, refl) is.0 (λ u. (tt, k.1.1.1)) tt in
      let back : refuses new.input (Msg is.1.0) = subst (λ now. refuses now (Msg is.1.0)) (sym k.1.1.2) none in
      (tt, subst (λ m. MatchBool m (refuses new.input x) (IsOtherForm e x × (new.input ≡ old.input))) (sym k.1.0) (subst (refuses new.input) (sym is.1.1) back))

  -- it was not read, which `?` passes on
  pub held_handed_on : {E T U : Type 0} (state : T → S) (meaning : U → V) (e : EnumState) (old new : DeState) (result : Result U (DecodeError E)) (error : DecodeError E) → IsErrAnd result (λ y. y ≡ error)
      → ReadsFieldsHeld {E = E} state shape e old (Err error) new → ReadsFieldsHeld meaning (finishing finish shape) e old result new
  held_handed_on state meaning e old new (Ok v) error is h fresh = absurd is
  held_handed_on {E} {T} state meaning e old new (Err x) error is h fresh = (tt, by e.in_map (subst (λ y. ReadsHeld {T = T} {E = E} state shape e old.input (Err y) new.input) (sym is) (h fresh).1))
    where
      by : (m : Bool) → MatchBool m (RefusesRead (HasFront shape old.input) shape old.input x new.input) (IsOtherForm e x × (new.input ≡ old.input))
          → MatchBool m (RefusesRead (HasFront (finishing finish shape) old.input) shape old.input x new.input) (IsOtherForm e x × (new.input ≡ old.input))
      by true r = not_read (shape.wants_loan ≡ true) old.input new.input {F = Unit {0}} x (λ u. r) tt
      by false r = r
