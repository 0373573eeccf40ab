use Rattle.std.proofs.Common.{List}
use Rattle.text_dag_json.proofs.Slots.{KeyAndTree}
use Rattle.text_dag_json.proofs.Members.{ItemsFrom, MembersFrom}
use Rattle.text_dag_json.proofs.read.+data.Given as goal

abbrev pub invariant-items_of-loop-value : goal.invariant-items_of-loop-value
invariant-items_of-loop-value l = ItemsFrom l.values l.value-index l.items.items

abbrev pub invariant-entries_of-loop-member : goal.invariant-entries_of-loop-member
invariant-entries_of-loop-member l = (seen : List KeyAndTree) × MembersFrom l.members l.member-index l.entries.entries seen
