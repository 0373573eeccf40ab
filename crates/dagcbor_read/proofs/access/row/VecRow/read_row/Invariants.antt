use Rattle.std.proofs.Common.{map, All}
use Rattle.dagcbor_read.specs.Accessors.{accessor_state}
use Rattle.dagcbor_read.specs.Deserializers.{de_state}
use Rattle.dagcbor_read.proofs.ItemRows.{ReadSoFar}
use Rattle.dagcbor_read.proofs.access.row.VecRow.read_row.Given as goal

abbrev pub invariant-loop-all : goal.invariant-loop-all
invariant-loop-all g l = ReadSoFar g.T.Shown.shape (accessor_state l.fn.items) (de_state g.R.Read.reading l.fn.de) (accessor_state l.items) (map g.T.Shown.meaning l.all.items) (de_state g.R.Read.reading l.de)
    × All (g.T.Deserialize.lies (de_state g.R.Read.reading l.fn.de).input.lends) l.all.items

abbrev pub decreases-loop-all : goal.decreases-loop-all
decreases-loop-all g l = l.items.left
