use Rattle.std.proofs.Common.{option_map}
use Rattle.dagcbor_read.specs.Accessors.{accessor_state}
use Rattle.dagcbor_read.specs.Deserializers.{de_state}
use Rattle.serde_ipld_dagcbor.specs.ByHand.{MapSoFar}
use Rattle.tests_types.specs.One.{one_fields}
use Rattle.tests_types.proofs.tests.by_hand.one_by_loop.read_one_by_loop.Given as goal

abbrev pub invariant-loop-entries : goal.invariant-loop-entries
invariant-loop-entries g l = MapSoFar one_fields.fields one_fields.unread (de_state g.R.Read.reading l.fn.de) (accessor_state l.entries) (option_map (λ n. n) l.a, tt) (de_state g.R.Read.reading l.de)

abbrev pub decreases-loop-entries : goal.decreases-loop-entries
decreases-loop-entries g l = l.entries.left
