use Rattle.dag_pb.proofs.Spelled.{node_unique}
use Rattle.dag_pb.proofs.laws.nodes_are_unique.Goals as goal

pub returns : goal.returns
returns c = node_unique
