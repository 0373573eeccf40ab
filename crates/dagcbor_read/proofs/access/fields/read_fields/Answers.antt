use Rattle.std.proofs.Common.{codes, []}
use Rattle.dagcbor_read.specs.Deserializers.{de_state}
use Rattle.dagcbor_read.proofs.EntryRows.{entries_read}
use Rattle.dagcbor_read.specs.Accessors.{BeginsItems}
use Rattle.dagcbor_read.specs.Parts.{RefusesEntries}
use Rattle.dagcbor_read.proofs.Handing.{rest_refused, not_begun}
use Rattle.dagcbor_read.proofs.access.fields.read_fields.Goals as goal

pub returns-clause-value : goal.returns-clause-value
returns-clause-value g c =
    entries_read (g.F.Fields.shape []) g.F.Fields.unread g.F.Fields.state (de_state g.R.Read.reading c.args.de.now) (de_state g.R.Read.reading c.deserialize_map.new.self) (de_state g.R.Read.reading c.read_entries_left.new.de) (codes "map") c.in_ok-entries.entries c.read_entries_left.result c.in_ok-entries.ensures.begun c.read_entries_left.ensures.entries

pub returns-in_err-entries-clause-refuses : goal.returns-in_err-entries-clause-refuses
returns-in_err-entries-clause-refuses g c = not_begun (BeginsItems 5 (codes "map") 1) (RefusesEntries g.F.Fields.refuses) _ _ _ _ c.from_residual.ensures.1 c.in_err-entries.ensures.begun

pub returns-clause-refuses : goal.returns-clause-refuses
returns-clause-refuses g c = rest_refused (BeginsItems 5 (codes "map") 1) (RefusesEntries g.F.Fields.refuses) _ _ _ c.in_ok-entries.entries c.read_entries_left.result c.in_ok-entries.ensures.begun c.read_entries_left.ensures.refuses
