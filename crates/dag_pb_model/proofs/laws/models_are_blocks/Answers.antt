use Rattle.dag_pb_model.proofs.Blocks.{model_block}
use Rattle.dag_pb_model.proofs.laws.models_are_blocks.Goals as goal

pub returns : goal.returns
returns c = model_block
