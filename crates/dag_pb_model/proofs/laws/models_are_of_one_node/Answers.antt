use Rattle.dag_pb_model.proofs.NodeLaws.{one_node}
use Rattle.dag_pb_model.proofs.laws.models_are_of_one_node.Goals as goal

pub returns : goal.returns
returns c = one_node
