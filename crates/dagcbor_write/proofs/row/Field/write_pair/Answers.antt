use Rattle.std.proofs.Common.{refl}
use Rattle.dagcbor_heads.proofs.Writing.{next_part, exit_part, last_part}
use Rattle.dagcbor_write.proofs.Parts.{begin_two}
use Rattle.dagcbor_write.proofs.row.Field.write_pair.Goals as goal

pub returns-in_err-serialize_str-clause-written : goal.returns-in_err-serialize_str-clause-written
returns-in_err-serialize_str-clause-written g c = exit_part (begin_two _ _ _ _ refl) _ _ _ c.from_residual.ensures.1 c.in_err-serialize_str.ensures.written

pub returns-clause-written : goal.returns-clause-written
returns-clause-written g c =
    last_part (next_part (begin_two _ _ _ _ refl) _ c.in_ok-serialize_str.ensures.written) _ _ c.serialize.ensures.written
