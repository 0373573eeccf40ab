use Rattle.std.proofs.Common.{◌≡◌, drop}
use Rattle.text_dag_json.specs.Reading.{are_digits}
use Rattle.text_dag_json.proofs.number.are_digits.Given as goal

abbrev pub invariant-loop-byte : goal.invariant-loop-byte
invariant-loop-byte l = are_digits (drop l.byte-index l.text) ≡ are_digits l.text
