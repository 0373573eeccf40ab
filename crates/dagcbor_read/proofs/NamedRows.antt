-- Entries whose keys are names of a row.
use Rattle.std.proofs.Common.{◌≡◌, ℕ, ◌<◌, List, true, false, refl, sym, subst, Option, None, Some}
use Rattle.dagcbor_core.specs.declared.error.DecodeError.{DecodeError}
use Rattle.dagcbor_items.specs.Entries.{HasName}
use Rattle.dagcbor_items.specs.Shapes.{unless_lent}
use Rattle.dagcbor_items.specs.TypedReads.{RefusesRead, MayLack, Anything}
use Rattle.dagcbor_items.proofs.StringItems.{text_taken}
use Rattle.dagcbor_read.specs.Accessors.{AccessorState}
use Rattle.dagcbor_read.specs.Collections.{FieldShape, HasFields, fields_memory, all_entries}
use Rattle.dagcbor_read.specs.Deserializers.{DeState}
use Rattle.dagcbor_read.specs.Named.{TakesName, TakesKnown, TakesField, ReadsNamed}
use Rattle.dagcbor_read.proofs.Answered.{KeyRead}
use Rattle.dagcbor_read.proofs.EntryRows.{FieldsSoFar, one_more_field, value_not_read}
use Rattle.dagcbor_read.proofs.ItemRows.{same_reader}
use Rattle.dagcbor_heads.proofs.Refusing.{refusal_carried}
use Rattle.dagcbor_read.proofs.Passing.{or_right, lacks_before}

pub name_taken : {last : Option (List ℕ)} {name : List ℕ} {old mid : DeState} → TakesName last name old mid → TakesKnown (λ k. HasName last k old.input) last old name mid
name_taken h = record { is = h.0; follows = h.0.follows; read = h.1; takes = text_taken _ h.2 }

key_known : {known : List ℕ → Type 0} {last : Option (List ℕ)} {left : ℕ} {old mid : DeState} {key : List ℕ} → 0 < left → TakesKnown known last old key mid → KeyRead last left old key mid
key_known some t = record { sound = t.read; some = some; follows = t.follows; takes = t.takes }

-- ---- entries so far

module _ {S : Type 0} (shape : FieldShape S) {start s : S} {before now_left : AccessorState} {old now : DeState} where
  pub field_so_far : {known : List ℕ → Type 0} {next : S} {after : AccessorState} {new : DeState} → FieldsSoFar shape start before old now_left s now → 0 < now_left.left
      → TakesField known shape s now_left now next after new → FieldsSoFar shape start before old after next new
  field_so_far {known} {next} {after} {new} i some t =
      one_more_field shape t.key t.key refl i (key_known some t.begun) refl t.counted t.sound t.value

  pub named_value_refused : {E : Type 0} (after : AccessorState) (s' : S) (new : DeState) (refusal : Option (DecodeError E)) (e : DecodeError E) → refusal ≡ Some e → FieldsSoFar shape start before old now_left s now → 0 < now_left.left
      → ReadsNamed shape s now_left now false refusal s' after new
      → RefusesRead (HasFields shape start before.last before.left old.input) (all_entries shape start) old.input e new.input
  named_value_refused {E} after s' new refusal e is i some h =
      let r = subst (λ x. ReadsNamed shape s now_left now false x s' after new) is h in
      value_not_read shape (MayLack shape.memory r.mid.input) (shape.wants_loan ≡ true) new.input e r.key r.key refl i (key_known some r.begun) (or_right (unless_lent r.mid.input.lends) (shape.memory r.mid.input.lends)) r.refused

  pub nothing_named : {E : Type 0} {after : AccessorState} {s' : S} {new : DeState} (refusal : Option (DecodeError E)) → refusal ≡ None → FieldsSoFar shape start before old now_left s now
      → ReadsNamed shape s now_left now false refusal s' after new → FieldsSoFar shape start before old after s' new × (after ≡ now_left)
  nothing_named {E} {after} {s'} {new} refusal is i h =
      let k = subst (λ x. ReadsNamed shape s now_left now false x s' after new) is h in
      (subst (λ x. FieldsSoFar shape start before old x s' new) (sym k.1) (subst (λ x. FieldsSoFar shape start before old now_left x new) (sym k.0) (subst (λ x. FieldsSoFar shape start before old now_left s x) (sym k.2) i)), k.1)

  pub others_refused : {E : Type 0} (new : DeState) (e : DecodeError E) → FieldsSoFar shape start before old now_left s now
      → RefusesRead (HasFields shape s now_left.last now_left.left now.input) (all_entries shape s) now.input e new.input
      → RefusesRead (HasFields shape start before.last before.left old.input) (all_entries shape start) old.input e new.input
  others_refused {E} new e i r = refusal_carried Anything Anything old.input now.input new.input e (same_reader i.same) i.has (lacks_before (fields_memory shape) i.same.lends) (λ x. x) (λ b l g. tt) r
