use Rattle.dag_pb_model.proofs.NodeLaws.{put_read}
use Rattle.dag_pb_model.proofs.laws.put_nodes_have_their_models.Goals as goal

pub returns : goal.returns
returns c = put_read
