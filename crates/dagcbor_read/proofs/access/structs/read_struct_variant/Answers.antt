use Rattle.std.proofs.Common.{Ok, Err, codes}
use Rattle.dagcbor_read.specs.Deserializers.{de_state}
use Rattle.dagcbor_read.specs.Collections.{fields_of}
use Rattle.dagcbor_read.specs.Enums.{enum_state, BeginsHeld, TakesHeld}
use Rattle.dagcbor_read.specs.Parts.{RefusesEntries, RefusesHeldFields}
use Rattle.dagcbor_read.specs.Structs.{texts}
use Rattle.dagcbor_read.proofs.EntryRows.{held_entries_read}
use Rattle.dagcbor_read.proofs.Finishing.{held_handed_on, held_finishes}
use Rattle.dagcbor_read.proofs.Wholes.{on_refusal}
use Rattle.dagcbor_read.proofs.Handing.{or_lacking, not_begun, rest_refused, lacking_told}
use Rattle.dagcbor_read.proofs.access.structs.read_struct_variant.Goals as goal

pub returns-in_err-places-clause-fields : goal.returns-in_err-places-clause-fields
returns-in_err-places-clause-fields g c =
    let shape = g.F.Fields.shape (texts c.args.names.now) in
    let read = held_entries_read shape g.F.Fields.unread g.F.Fields.state (codes "map") (enum_state c.args.variant) (de_state g.R.Read.reading c.args.de.now) (de_state g.R.Read.reading c.struct_variant.new.de) (de_state g.R.Read.reading c.read_entries_left.new.de) c.in_ok-entries.entries (Err c.in_err-places.field-0.0) c.in_ok-entries.ensures.begun c.in_err-places.ensures.entries in
    held_handed_on (fields_of shape g.F.Fields.unread) g.F.Fields.finish g.F.Fields.state g.F.Fields.meaning (enum_state c.args.variant) (de_state g.R.Read.reading c.args.de.now) (de_state g.R.Read.reading c.read_entries_left.new.de) c.from_residual-in_err-places.result c.in_err-places.field-0.0 c.from_residual-in_err-places.ensures.1 read

pub returns-clause-fields : goal.returns-clause-fields
returns-clause-fields g c =
    let shape = g.F.Fields.shape (texts c.args.names.now) in
    let read = held_entries_read shape g.F.Fields.unread g.F.Fields.state (codes "map") (enum_state c.args.variant) (de_state g.R.Read.reading c.args.de.now) (de_state g.R.Read.reading c.struct_variant.new.de) (de_state g.R.Read.reading c.read_entries_left.new.de) c.in_ok-entries.entries (Ok c.in_ok-places.places) c.in_ok-entries.ensures.begun c.in_ok-places.ensures.entries in
    held_finishes (fields_of shape g.F.Fields.unread) g.F.Fields.finish g.F.Fields.state g.F.Fields.meaning (enum_state c.args.variant) (de_state g.R.Read.reading c.args.de.now) (de_state g.R.Read.reading c.read_entries_left.new.de) c.in_ok-places.places c.finished.result c.finished.ensures.finish read

pub returns-in_err-entries-clause-refuses : goal.returns-in_err-entries-clause-refuses
returns-in_err-entries-clause-refuses g c =
    let variant = enum_state c.args.variant in
    let takes = TakesHeld (fields_of (g.F.Fields.shape (texts c.args.names.now)) g.F.Fields.unread) variant in
    or_lacking (RefusesHeldFields g.F.Fields.refuses variant) takes g.F.Fields.finish _ _ _
    (not_begun (BeginsHeld 5 (codes "map") variant) (RefusesEntries g.F.Fields.refuses) _ _ _ _ c.from_residual.ensures.1 c.in_err-entries.ensures.begun)

pub returns-in_err-places-clause-refuses : goal.returns-in_err-places-clause-refuses
returns-in_err-places-clause-refuses g c =
    let variant = enum_state c.args.variant in
    let takes = TakesHeld (fields_of (g.F.Fields.shape (texts c.args.names.now)) g.F.Fields.unread) variant in
    or_lacking (RefusesHeldFields g.F.Fields.refuses variant) takes g.F.Fields.finish _ _ _
    (rest_refused (BeginsHeld 5 (codes "map") variant) (RefusesEntries g.F.Fields.refuses) _ _ _ c.in_ok-entries.entries c.from_residual-in_err-places.result c.in_ok-entries.ensures.begun (on_refusal _ _ _ c.from_residual-in_err-places.ensures.1 c.in_err-places.ensures.refuses))

pub returns-clause-refuses : goal.returns-clause-refuses
returns-clause-refuses g c =
    let variant = enum_state c.args.variant in
    let shape = g.F.Fields.shape (texts c.args.names.now) in
    let read = held_entries_read shape g.F.Fields.unread g.F.Fields.state (codes "map") variant (de_state g.R.Read.reading c.args.de.now) (de_state g.R.Read.reading c.struct_variant.new.de) (de_state g.R.Read.reading c.read_entries_left.new.de) c.in_ok-entries.entries (Ok c.in_ok-places.places) c.in_ok-entries.ensures.begun c.in_ok-places.ensures.entries in
    lacking_told (RefusesHeldFields g.F.Fields.refuses variant) (TakesHeld (fields_of shape g.F.Fields.unread) variant) g.F.Fields.finish g.F.Fields.meaning (de_state g.R.Read.reading c.args.de.now) (de_state g.R.Read.reading c.read_entries_left.new.de) c.finished.result (g.F.Fields.state c.in_ok-places.places) c.finished.ensures.finish c.finished.ensures.said read
