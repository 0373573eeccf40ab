use Rattle.dag_pb_model.proofs.NodeLaws.{text_names}
use Rattle.dag_pb_model.proofs.laws.blocks_have_text_names.Goals as goal

pub returns : goal.returns
returns c = text_names
