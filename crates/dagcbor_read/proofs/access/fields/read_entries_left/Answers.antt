use Rattle.std.proofs.Common.{refl, arith, ap, subst, sym}
use Rattle.dagcbor_heads.proofs.Refusing.{as_refusal}
use Rattle.dagcbor_read.specs.Accessors.{AccessorState, accessor_state, EndsItems}
use Rattle.dagcbor_read.specs.Deserializers.{de_state}
use Rattle.dagcbor_read.specs.Structs.{texts}
use Rattle.dagcbor_read.proofs.Progressing.{call_answered, call_told}
use Rattle.dagcbor_read.proofs.EntryRows.{all_fields_read, no_field_so_far, FieldsSoFar}
use Rattle.dagcbor_read.proofs.NamedRows.{field_so_far, named_value_refused, nothing_named, others_refused}
use Rattle.dagcbor_read.proofs.Wholes.{on_refusal}
use Rattle.dagcbor_read.proofs.Handing.{entries_past, named_refused}
use Rattle.dagcbor_read.proofs.access.fields.read_entries_left.Goals as goal

pub loop-entries-init : goal.loop-entries-init
loop-entries-init g c =
    let shape = g.F.Fields.shape (texts c.args.names.now) in
    subst (λ x. FieldsSoFar shape g.F.Fields.unread (accessor_state c.args.entries) (de_state g.R.Read.reading c.args.de.now) (accessor_state c.args.entries) x (de_state g.R.Read.reading c.args.de.now)) (sym c.unread-places.ensures) (no_field_so_far shape g.F.Fields.unread (accessor_state c.args.entries) (de_state g.R.Read.reading c.args.de.now) c.requires.sound c.requires.map c.requires.in_turn)

pub loop-entries-preserved-then-read_named : goal.loop-entries-preserved-then-read_named
loop-entries-preserved-then-read_named g c =
    field_so_far (g.F.Fields.shape (texts c.args.names.now)) c.loop-entries.invariant (omega (arith, c.loop-entries-test.true)) c.if-read_named.ensures.entry

pub returns-in-Some-clause-entries : goal.returns-in-Some-clause-entries
returns-in-Some-clause-entries g c =
    named_value_refused (g.F.Fields.shape (texts c.args.names.now)) (accessor_state c.read_named.new.entries) (g.F.Fields.state c.read_named.new.places) (de_state g.R.Read.reading c.read_named.new.de) c.read_named.new.refusal c.in-Some.e c.in-Some.is c.loop-entries.invariant (omega (arith, c.loop-entries-test.true)) c.if-read_named.ensures.entry

pub loop-entries-preserved : goal.loop-entries-preserved
loop-entries-preserved g c =
    let shape = g.F.Fields.shape (texts c.args.names.now) in
    let i = nothing_named shape c.read_named.new.refusal c.in_default.is c.loop-entries.invariant c.if-read_named.ensures.entry in
    field_so_far shape i.0 (omega (arith, c.loop-entries-test.true, ap (λ (a : AccessorState). a.left) i.1)) c.in_ok-read_by_key.ensures.entry

pub returns-in_err-read_by_key-clause-entries : goal.returns-in_err-read_by_key-clause-entries
returns-in_err-read_by_key-clause-entries g c =
    let shape = g.F.Fields.shape (texts c.args.names.now) in
    let i = nothing_named shape c.read_named.new.refusal c.in_default.is c.loop-entries.invariant c.if-read_named.ensures.entry in
    as_refusal _ _ _ _ c.from_residual.ensures.1 (others_refused shape (de_state g.R.Read.reading c.read_by_key.new.de) _ i.0 c.in_err-read_by_key.ensures.entry)

pub returns-clause-entries : goal.returns-clause-entries
returns-clause-entries g c =
    let i = c.loop-entries.invariant in
    let now = de_state g.R.Read.reading c.loop-entries.de in
    let e = call_answered (EndsItems (accessor_state c.loop-entries.entries)) now (de_state g.R.Read.reading c.end.new.de) _ c.in_ok-end.ensures in
    let a = all_fields_read (g.F.Fields.shape (texts c.args.names.now)) now (de_state g.R.Read.reading c.end.new.de) i (omega (arith, c.loop-entries-test.false)) refl refl e.2.1 in
    (e.1, a.0, a.1, a.2)

pub returns-in-Some-clause-refuses : goal.returns-in-Some-clause-refuses
returns-in-Some-clause-refuses g c =
    named_refused g.F.Fields.refuses (accessor_state c.args.entries) _ _ _ _ _ _ (entries_past (g.F.Fields.shape (texts c.args.names.now)) c.loop-entries.invariant (omega (arith, c.loop-entries-test.true))) c.in-Some.is c.if-read_named.ensures.refuses

pub returns-in_err-read_by_key-clause-refuses : goal.returns-in_err-read_by_key-clause-refuses
returns-in_err-read_by_key-clause-refuses g c =
    let shape = g.F.Fields.shape (texts c.args.names.now) in
    let i = nothing_named shape c.read_named.new.refusal c.in_default.is c.loop-entries.invariant c.if-read_named.ensures.entry in
    on_refusal _ _ _ c.from_residual.ensures.1 (_, (_, entries_past shape i.0 (omega (arith, c.loop-entries-test.true, ap (λ (a : AccessorState). a.left) i.1)), c.in_err-read_by_key.ensures.refuses))

pub returns-in_err-end-clause-refuses : goal.returns-in_err-end-clause-refuses
returns-in_err-end-clause-refuses g c =
    let k = call_told (EndsItems (accessor_state c.loop-entries.entries)) (de_state g.R.Read.reading c.loop-entries.de) (de_state g.R.Read.reading c.end.new.de) _ c.loop-entries.invariant.sound c.in_err-end.ensures in
    absurd (omega (arith, c.loop-entries-test.false, k.1.0))
