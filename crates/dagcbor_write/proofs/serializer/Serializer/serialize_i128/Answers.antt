use Rattle.std.proofs.Common.{rules, arith}
use Rattle.std.proofs.lemmas.Grind.{common_steps}
use Rattle.ipld_tree.specs.Spelled.{spelled}
use Rattle.dagcbor_write.proofs.serializer.Serializer.serialize_i128.Goals as goal

pub returns-in-Ok-clause-written : goal.returns-in-Ok-clause-written
unfolding spelled
returns-in-Ok-clause-written g c = grind (arith, common_steps)

pub returns-in-Err-clause-written : goal.returns-in-Err-clause-written
unfolding spelled
returns-in-Err-clause-written g c = search rules
