use Rattle.std.proofs.Common.{◌≡◌, ◌++◌, ◌∷◌, [], take, flat_map}
use Rattle.text_dag_json.specs.DagJson.{escaped}
use Rattle.text_dag_json.proofs.text.push_text.Given as goal

abbrev pub invariant-loop-byte : goal.invariant-loop-byte
invariant-loop-byte l = l.out.items ≡ (l.fn.out.items ++ 34 ∷ []) ++ flat_map escaped (take l.byte-index l.text)
