-- A variant of an enum that holds a value of its own type, without naming that type's meaning.
use Rattle.std.proofs.Common.{◌≡◌, ℕ, true, false, Bool, List, None, option_map, Result, Err, IsErrAnd, MatchResult}
use Rattle.std.specs.Prelude.{⊤, MatchBool}
use Rattle.dagcbor_heads.specs.Refusals.{Refuses}
use Rattle.dagcbor_core.specs.declared.error.DecodeError.{DecodeError}
use Rattle.dagcbor_heads.proofs.Refusing.{as_refusal}
use Rattle.ipld_tree.specs.Tree.{Tree}
use Rattle.dagcbor_items.specs.Shapes.{Shape}
use Rattle.dagcbor_items.specs.TypedReads.{RefusesRead, HasFront, MayLack, Anything}
use Rattle.dagcbor_read.specs.Deserializers.{DeState, Call}
use Rattle.dagcbor_read.specs.Enums.{EnumState, IsOtherForm}
use Rattle.dagcbor_read.specs.EnumViews.{EnumShape, HasVariant}
use Rattle.dagcbor_read.proofs.NamedVariants.{fields_refused}
use Rattle.dagcbor_read.proofs.Progressing.{call_told}

module _ {V W : Type 0} (shape : EnumShape V) (f : W → V) (own : Shape Tree W) (E T : Type 0) where
  -- What it holds was refused, which `?` passes on.
  pub held_handed_on : {U : Type 0} (P : U → Type 0) (borrows : Type 0) (e : EnumState) (old new : DeState) {k : List ℕ} (name : List ℕ) (r : DecodeError E) (result : Result U (DecodeError E)) → IsErrAnd result (λ y. y ≡ r)
      → k ≡ name → shape.unit name ≡ None → ((t : Tree) → shape.part name t ≡ option_map f (own.view t)) → ((t : Tree) → shape.need name t ≡ own.need t)
      → (own.wants_loan ≡ true → borrows) → ((lends : Bool) → own.memory lends ≡ true → shape.memory lends ≡ true) → old.failed ≡ false
      → Call {T = T} (λ old r new. MatchResult r (λ v. ⊤) (λ x. MatchBool e.in_map (RefusesRead (HasFront own old) own old x new) (IsOtherForm e x × (new ≡ old)))) old (Err r) new
      → MatchResult result P (λ x. Refuses (record { could = HasVariant shape k e old.input; lacks = MayLack shape.memory old.input; borrows = borrows; stands = Anything }) old.input x new.input)
  held_handed_on P borrows e old new {k} name r result told is none same much lent may sound h =
      as_refusal P (λ x. Refuses {E = E} (record { could = HasVariant shape k e old.input; lacks = MayLack shape.memory old.input; borrows = borrows; stands = Anything }) old.input x new.input) result r told
      (fields_refused shape f own E (λ (w : W). w) borrows e old new name r is none same much lent may sound
      (λ s. (tt, (call_told (λ old r new. MatchResult r (λ v. ⊤) (λ x. MatchBool e.in_map (RefusesRead (HasFront own old) own old x new) (IsOtherForm e x × (new ≡ old)))) old new (Err r) s h).1)))
