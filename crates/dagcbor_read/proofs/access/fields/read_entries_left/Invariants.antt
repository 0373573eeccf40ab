use Rattle.dagcbor_read.specs.Accessors.{accessor_state}
use Rattle.dagcbor_read.specs.Deserializers.{de_state}
use Rattle.dagcbor_read.specs.Structs.{texts}
use Rattle.dagcbor_read.proofs.EntryRows.{FieldsSoFar}
use Rattle.dagcbor_read.proofs.access.fields.read_entries_left.Given as goal

abbrev pub invariant-loop-entries : goal.invariant-loop-entries
invariant-loop-entries g l = FieldsSoFar (g.F.Fields.shape (texts l.fn.names)) g.F.Fields.unread (accessor_state l.fn.entries) (de_state g.R.Read.reading l.fn.de) (accessor_state l.entries) (g.F.Fields.state l.places) (de_state g.R.Read.reading l.de)

abbrev pub decreases-loop-entries : goal.decreases-loop-entries
decreases-loop-entries g l = l.entries.left
