use Rattle.std.proofs.Common.{Ok, Err}
use Rattle.dagcbor_read.specs.Deserializers.{de_state}
use Rattle.dagcbor_read.specs.Collections.{fields_of}
use Rattle.dagcbor_read.specs.Structs.{texts}
use Rattle.dagcbor_read.specs.Accessors.{BeginsItems}
use Rattle.dagcbor_read.specs.Parts.{RefusesEntries, RefusesFieldsAs}
use Rattle.dagcbor_items.specs.TypedReads.{TakesFront}
use Rattle.dagcbor_read.proofs.EntryRows.{entries_read}
use Rattle.dagcbor_read.proofs.Finishing.{handed_on, finishes}
use Rattle.dagcbor_read.proofs.Wholes.{on_refusal}
use Rattle.dagcbor_read.proofs.Handing.{or_lacking, not_begun, rest_refused, lacking_told}
use Rattle.dagcbor_read.proofs.access.structs.read_struct.Goals as goal

pub returns-in_err-places-clause-value : goal.returns-in_err-places-clause-value
returns-in_err-places-clause-value g c = handed_on _ _ _ _ _ _ _ _ c.from_residual-in_err-places.ensures.1
    (entries_read (g.F.Fields.shape (texts c.args.names.now)) g.F.Fields.unread g.F.Fields.state (de_state g.R.Read.reading c.args.de.now) (de_state g.R.Read.reading c.deserialize_struct.new.self) (de_state g.R.Read.reading c.read_entries_left.new.de) _ c.in_ok-entries.entries (Err c.in_err-places.field-0.0) c.in_ok-entries.ensures.begun c.in_err-places.ensures.entries)

pub returns-clause-value : goal.returns-clause-value
returns-clause-value g c =
    let shape = g.F.Fields.shape (texts c.args.names.now) in
    let read = entries_read shape g.F.Fields.unread g.F.Fields.state (de_state g.R.Read.reading c.args.de.now) (de_state g.R.Read.reading c.deserialize_struct.new.self) (de_state g.R.Read.reading c.read_entries_left.new.de) _ c.in_ok-entries.entries (Ok c.in_ok-places.places) c.in_ok-entries.ensures.begun c.in_ok-places.ensures.entries in
    finishes (fields_of shape g.F.Fields.unread) g.F.Fields.finish _ g.F.Fields.meaning c.finished.result c.finished.ensures.finish read

pub returns-in_err-entries-clause-refuses : goal.returns-in_err-entries-clause-refuses
returns-in_err-entries-clause-refuses g c =
    let takes = TakesFront (fields_of (g.F.Fields.shape (texts c.args.names.now)) g.F.Fields.unread) in
    or_lacking (RefusesFieldsAs g.F.Fields.refuses c.args.name.now) takes g.F.Fields.finish _ _ _
    (not_begun (BeginsItems 5 c.args.name.now 1) (RefusesEntries g.F.Fields.refuses) _ _ _ _ c.from_residual.ensures.1 c.in_err-entries.ensures.begun)

pub returns-in_err-places-clause-refuses : goal.returns-in_err-places-clause-refuses
returns-in_err-places-clause-refuses g c =
    let takes = TakesFront (fields_of (g.F.Fields.shape (texts c.args.names.now)) g.F.Fields.unread) in
    or_lacking (RefusesFieldsAs g.F.Fields.refuses c.args.name.now) takes g.F.Fields.finish _ _ _
    (rest_refused (BeginsItems 5 c.args.name.now 1) (RefusesEntries g.F.Fields.refuses) _ _ _ c.in_ok-entries.entries c.from_residual-in_err-places.result c.in_ok-entries.ensures.begun (on_refusal _ _ _ c.from_residual-in_err-places.ensures.1 c.in_err-places.ensures.refuses))

pub returns-clause-refuses : goal.returns-clause-refuses
returns-clause-refuses g c =
    let shape = g.F.Fields.shape (texts c.args.names.now) in
    let read = entries_read shape g.F.Fields.unread g.F.Fields.state (de_state g.R.Read.reading c.args.de.now) (de_state g.R.Read.reading c.deserialize_struct.new.self) (de_state g.R.Read.reading c.read_entries_left.new.de) _ c.in_ok-entries.entries (Ok c.in_ok-places.places) c.in_ok-entries.ensures.begun c.in_ok-places.ensures.entries in
    lacking_told (RefusesFieldsAs g.F.Fields.refuses c.args.name.now) (TakesFront (fields_of shape g.F.Fields.unread)) g.F.Fields.finish g.F.Fields.meaning (de_state g.R.Read.reading c.args.de.now) (de_state g.R.Read.reading c.read_entries_left.new.de) c.finished.result (g.F.Fields.state c.in_ok-places.places) c.finished.ensures.finish c.finished.ensures.said read
