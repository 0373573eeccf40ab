use Rattle.std.proofs.Common.{inl, inr, ◌≡◌, true, ap, subst, ◌∙◌}
use Rattle.dagcbor_heads.proofs.Refusing.{as_refusal}
use Rattle.dagcbor_read.specs.Accessors.{accessor_state, with_key, with_value}
use Rattle.dagcbor_items.specs.TypedReads.{TakesFront}
use Rattle.dagcbor_read.specs.Collections.{value_of}
use Rattle.dagcbor_read.specs.Deserializers.{de_state}
use Rattle.dagcbor_read.specs.Structs.{texts}
use Rattle.dagcbor_read.proofs.Answered.{kept_read, kept_refused, at_some}
use Rattle.dagcbor_read.proofs.EntryRows.{no_field_so_far, key_not_read, value_not_read}
use Rattle.dagcbor_read.proofs.Passing.{or_right}
use Rattle.dagcbor_read.proofs.Wholes.{on_refusal}
use Rattle.dagcbor_read.proofs.Handing.{key_past}
use Rattle.dagcbor_read.proofs.access.fields.read_by_key.Goals as goal

pub returns-in_err-keep_key-clause-entry : goal.returns-in_err-keep_key-clause-entry
returns-in_err-keep_key-clause-entry g c =
    let shape = g.F.Fields.shape (texts c.args.names.now) in
    let i = no_field_so_far shape (g.F.Fields.state c.args.places.now) (accessor_state c.args.entries.now) (de_state g.R.Read.reading c.args.de.now) c.requires.sound c.requires.map c.requires.in_turn in
    let k = kept_refused g.row.R-Error.Denot (accessor_state c.args.entries.now).last (accessor_state c.keep_key.new.self).last (de_state g.R.Read.reading c.args.de.now) (de_state g.R.Read.reading c.keep_key.new.de) _ c.requires.sound c.in_err-keep_key.ensures.key in
    as_refusal _ _ _ _ c.from_residual.ensures.1 (key_not_read shape (shape.wants_loan ≡ true) _ _ i c.requires.some k)

pub returns-in_err-read_field-clause-entry : goal.returns-in_err-read_field-clause-entry
returns-in_err-read_field-clause-entry g c =
    let shape = g.F.Fields.shape (texts c.args.names.now) in
    let i = no_field_so_far shape (g.F.Fields.state c.args.places.now) (accessor_state c.args.entries.now) (de_state g.R.Read.reading c.args.de.now) c.requires.sound c.requires.map c.requires.in_turn in
    let k = kept_read g.row.R-Error.Denot _ (accessor_state c.keep_key.new.self).last (accessor_state c.args.entries.now).left (de_state g.R.Read.reading c.args.de.now) (de_state g.R.Read.reading c.keep_key.new.de) _ c.requires.some c.in_ok-keep_key.ensures.key in
    let is = at_some (λ x. c.last_key.result.now ≡ x) k.1 c.last_key.ensures in
    as_refusal _ _ _ _ c.from_residual-in_err-read_field.ensures.1 (value_not_read shape (shape.memory (de_state g.R.Read.reading c.keep_key.new.de).input.lends ≡ true) (shape.wants_loan ≡ true) _ _ k.0 _ is i k.2 (or_right _ _) (c.in_err-read_field.ensures.value k.2.sound))

pub returns-clause-entry : goal.returns-clause-entry
returns-clause-entry g c =
    let shape = g.F.Fields.shape (texts c.args.names.now) in
    let state = g.F.Fields.state c.args.places.now in
    let mid = de_state g.R.Read.reading c.keep_key.new.de in
    let k = kept_read g.row.R-Error.Denot _ (accessor_state c.keep_key.new.self).last (accessor_state c.args.entries.now).left (de_state g.R.Read.reading c.args.de.now) mid _ c.requires.some c.in_ok-keep_key.ensures.key in
    let is = at_some (λ x. c.last_key.result.now ≡ x) k.1 c.last_key.ensures in
    let after = at_some (λ x. accessor_state c.keep_key.new.self ≡ with_key x (accessor_state c.args.entries.now)) k.1 c.in_ok-keep_key.ensures.after in
    let v = c.in_ok-read_field.ensures.value k.2.sound in
    record {
      key = k.0;
      mid = mid;
      begun = record { is = tt; follows = k.2.follows; read = k.2.sound; takes = k.2.takes };
      counted = c.note_value.ensures ∙ ap with_value after;
      sound = v.0;
      value = subst (λ x. TakesFront (value_of shape state x) mid.input (g.F.Fields.state c.read_field.new.places) (de_state g.R.Read.reading c.read_field.new.de).input) is v.1;
    }

pub returns-in_err-keep_key-clause-refuses : goal.returns-in_err-keep_key-clause-refuses
returns-in_err-keep_key-clause-refuses g c = on_refusal _ _ _ c.from_residual.ensures.1 (inl (((accessor_state c.keep_key.new.self).last, c.in_err-keep_key.ensures.key), c.in_err-keep_key.ensures.memory))

pub returns-in_err-read_field-clause-refuses : goal.returns-in_err-read_field-clause-refuses
returns-in_err-read_field-clause-refuses g c =
    let k = kept_read g.row.R-Error.Denot _ (accessor_state c.keep_key.new.self).last (accessor_state c.args.entries.now).left (de_state g.R.Read.reading c.args.de.now) (de_state g.R.Read.reading c.keep_key.new.de) _ c.requires.some c.in_ok-keep_key.ensures.key in
    on_refusal _ _ _ c.from_residual-in_err-read_field.ensures.1 (inr (_, key_past _ k.2.sound k.2.follows k.2.takes, c.in_err-read_field.ensures.refuses))
