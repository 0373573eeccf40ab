use Rattle.dag_pb_model.proofs.Models.{model_unique}
use Rattle.dag_pb_model.proofs.laws.models_are_unique.Goals as goal

pub returns : goal.returns
returns c = model_unique
