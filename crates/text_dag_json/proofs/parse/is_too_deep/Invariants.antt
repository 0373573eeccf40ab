use Rattle.std.proofs.Common.{◌≡◌, ◌≤◌, length}
use Rattle.json.specs.Lex.{tokens}
use Rattle.text_dag_json.specs.Reading.{most_levels, opens_past}
use Rattle.text_dag_json.proofs.parse.is_too_deep.Given as goal

abbrev pub invariant-loop-scratch : goal.invariant-loop-scratch
invariant-loop-scratch l = (opens_past l.levels l.reader ≡ opens_past most_levels (tokens l.fn.text)) × (l.levels ≤ 129)

abbrev pub decreases-loop-scratch : goal.decreases-loop-scratch
decreases-loop-scratch l = length l.reader
