-- Values that may be null.
use Rattle.std.proofs.Common.{◌≡◌, inl, inr, ℕ, ◌+◌, ◌<◌, List, [], ◌∷◌, ◌++◌, true, refl, sym, ap, ◌∙◌, arith, zero-le, ◌⊎◌, Some, None, Option, option_map, is_some}
use Rattle.dagcbor_heads.specs.Reading.{Reading, with_steps}
use Rattle.dagcbor_heads.specs.Fronts.{ShowsByte, Takes}
use Rattle.dagcbor_heads.specs.Refusals.{RefusesPlainly, Refuses}
use Rattle.dagcbor_core.specs.declared.error.DecodeError.{DecodeError}
use Rattle.dagcbor_heads.proofs.Taking.{stays}
use Rattle.dagcbor_heads.proofs.Refusing.{passed_on, refusal_carried}
use Rattle.ipld_tree.specs.Tree.{Tree, null}
use Rattle.ipld_tree.specs.Spelling.{spelling, IsFront}
use Rattle.dagcbor_items.specs.TypedReads.{HasFront, TakesFront, MayLack, Anything}
use Rattle.dagcbor_read.proofs.Passing.{given_back, lacks_before}
use Rattle.dagcbor_items.specs.Shapes.{view_option, need_option, Shape, option_of}
use Rattle.dagcbor_read.specs.Options.{CanEnter, EntersSome, OptionCause}
use Rattle.dagcbor_items.proofs.Fronts.{front_byte}

-- the view and the need of another tree than null
pub record IsPart {V : Type 0} (shape : Shape Tree V) (t : Tree) : Type 0 where
  pub shown : view_option shape.view t ≡ option_map Some (shape.view t)
  pub needed : need_option shape.need t ≡ 1 + shape.need t

is_part : {V : Type 0} (shape : Shape Tree V) (t : Tree) → (t ≡ null → ⊥) → IsPart shape t
is_part shape null h = absurd (h refl)
is_part shape _ h = record { shown = refl; needed = refl }

-- a null, or another tree
is_null_or : (t : Tree) → (t ≡ null) ⊎ (t ≡ null → ⊥)
is_null_or null = inl refl
is_null_or _ = inr (λ e. absurd (cc e))

-- there is a value, so there is a null, or a step is left
pub can_enter : {V : Type 0} (shape : Shape Tree V) (r : Reading) → HasFront (option_of shape) r → CanEnter r
can_enter shape r h =
    let f = front_byte h in
    record {
      byte = f.byte;
      rest = f.rest;
      left = f.left;
      room = elim (is_null_or h.tree) [
        | inl e ↦ inl (null_first h.bytes h.rest h.tree f.byte f.rest h.front e (cc (sym h.left ∙ f.left)))
        | inr e ↦ let p = is_part shape h.tree e in inr (omega (arith, h.within, p.needed))
      ];
    }
  where
    null_first : (b rest : List ℕ) (t : Tree) (byte : ℕ) (more : List ℕ) → IsFront b t rest → t ≡ null → b ≡ byte ∷ more → byte ≡ 0xf6
    null_first b rest t byte more f e s = let is : byte ∷ more ≡ 0xf6 ∷ rest = sym s ∙ f.is ∙ ap (λ u. spelling u ++ rest) e in cc is

-- after another byte than a null's, a step is what is wanted
pub wants_step : {old peeked : Reading} {first : ℕ} → ShowsByte old first peeked → (first ≡ 0xf6 → ⊥) → CanEnter old → 0 < old.steps
wants_step h other i =
    let k = h.starts (i.byte ∷ i.rest) i.left in
    elim i.room [
      | inl e ↦ absurd (other (cc (k.1, e)))
      | inr s ↦ s
    ]

pub not_entered : {V E : Type 0} (shape : Shape Tree V) (borrows : Type 0) (old new : Reading) (e : DecodeError E) → RefusesPlainly (CanEnter old) OptionCause old e new
    → Refuses (record { could = HasFront (option_of shape) old; lacks = MayLack shape.memory old; borrows = borrows; stands = Anything }) old e new
not_entered shape borrows old new e r = passed_on OptionCause Anything old old new e (stays old) (can_enter shape old) (λ x. absurd x) (λ x. absurd x) (λ b l. (b, l, λ h. tt)) r

pub null_entered : {V : Type 0} (shape : Shape Tree V) {old new : Reading} → Takes old (0xf6 ∷ []) new → TakesFront (option_of shape) old None new
null_entered shape {old} {new} h = record {
  taken = λ b l. let k = h.taken b l in (null, k.0, record { well_formed = tt; spellable = tt; is = k.1 }, refl, zero-le, k.2);
  same = h.same;
}

-- what comes after the step is not null
no_null : {old mid : Reading} (b rest : List ℕ) (t : Tree) → EntersSome old mid → old.left ≡ Some b → IsFront b t rest → t ≡ null → ⊥
no_null b rest t h l f e =
    let k = h.begins b l in
    let is : k.0 ∷ k.1 ≡ 0xf6 ∷ rest = sym k.2 ∙ f.is ∙ ap (λ u. spelling u ++ rest) e in
    k.3 (cc is)

pub some_entered : {V : Type 0} (shape : Shape Tree V) {old mid now new : Reading} (v : V) → EntersSome old mid → TakesFront shape mid v now → new ≡ with_steps (now.steps + 1) now
    → TakesFront (option_of shape) old (Some v) new
some_entered shape {old} {mid} {now} {new} v h a back = record {
  taken = λ b l.
      let k = a.taken b (h.kept b l) in
      let p = is_part shape k.0 (no_null b k.1 k.0 h l k.2) in
      (k.0, k.1, k.2, p.shown ∙ ap (option_map Some) k.3, omega (arith, k.4, p.needed, h.steps), ap (λ (r : Reading). r.left) back ∙ k.5);
  same = given_back (record { steps = h.steps; budget = h.budget; lends = h.lends; faults = h.faults; through = h.through }) a.same refl back;
}

-- the part is at the front after the step
part_stands : {V : Type 0} (shape : Shape Tree V) {old mid : Reading} → EntersSome old mid → HasFront (option_of shape) old → HasFront shape mid
part_stands shape {old} {mid} h i =
    let p = is_part shape i.tree (no_null i.bytes i.rest i.tree h i.left i.front) in
    record {
      bytes = i.bytes;
      tree = i.tree;
      rest = i.rest;
      left = h.kept i.bytes i.left;
      front = i.front;
      accepted = some_of (shape.view i.tree) (ap is_some (sym p.shown) ∙ i.accepted);
      within = omega (arith, i.within, p.needed, h.steps);
    }
  where
    some_of : {A : Type 0} (o : Option A) → is_some (option_map Some o) ≡ true → is_some o ≡ true
    some_of (Some a) e = refl
    some_of None e = e

pub some_refused : {V E : Type 0} (shape : Shape Tree V) (borrows : Type 0) {old mid : Reading} (new : Reading) (e : DecodeError E) → EntersSome old mid → Refuses (record { could = HasFront shape mid; lacks = MayLack shape.memory mid; borrows = borrows; stands = Anything }) mid e new
    → Refuses (record { could = HasFront (option_of shape) old; lacks = MayLack shape.memory old; borrows = borrows; stands = Anything }) old e new
some_refused shape borrows {old} {mid} new e h r = refusal_carried Anything Anything old mid new e (record { faults = h.faults; lends = h.lends }) (part_stands shape h) (lacks_before shape.memory h.lends) (λ x. x) (λ b l g. tt) r
