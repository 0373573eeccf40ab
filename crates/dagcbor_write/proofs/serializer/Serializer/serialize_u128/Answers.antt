use Rattle.std.proofs.Common.{rules}
use Rattle.ipld_tree.specs.Spelled.{spelled}
use Rattle.dagcbor_write.proofs.serializer.Serializer.serialize_u128.Goals as goal

pub returns-in-Ok-clause-written : goal.returns-in-Ok-clause-written
unfolding spelled
returns-in-Ok-clause-written g c = search rules

pub returns-in-Err-clause-written : goal.returns-in-Err-clause-written
unfolding spelled
returns-in-Err-clause-written g c = search rules
