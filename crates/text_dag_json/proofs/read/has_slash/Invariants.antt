use Rattle.std.proofs.Common.{◌≡◌, drop}
use Rattle.json.specs.Value.{members_view}
use Rattle.text_dag_json.specs.Reading.{has_slash}
use Rattle.text_dag_json.proofs.read.has_slash.Given as goal

abbrev pub invariant-loop-member : goal.invariant-loop-member
invariant-loop-member l = has_slash (members_view (drop l.member-index l.members)) ≡ has_slash (members_view l.members)
