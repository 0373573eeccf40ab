use Rattle.program_records.proofs.Spelled.{NoneBelow}
use Rattle.program_records.proofs.key.digit_value.Given as goal

abbrev pub invariant-loop-value : goal.invariant-loop-value
invariant-loop-value l = NoneBelow l.value l.byte
