use Rattle.std.proofs.Common.{rules}
use Rattle.ipld_tree.specs.Spelled.{spelled}
use Rattle.dagcbor_write.proofs.serializer.Serializer.serialize_str.Goals as goal

pub returns-clause-written : goal.returns-clause-written
unfolding spelled
returns-clause-written g c = search rules
