-- Why bytes have no data model.
use Rattle.std.specs.Prelude.{ℕ, List}
use Rattle.dag_pb.specs.Node.{NodeParts, IsNode}
use Rattle.dag_pb.specs.Causes.{IsNoNode}
use Rattle.dag_pb_model.specs.Model.{HasTextNames}
use Rattle.dag_pb_model.specs.declared.error.ModelError.{ModelError}
use Rattle.dag_pb_model.specs.declared.error.ModelError.TheVariants.{NoNode, NameNotText}

-- the bytes are not a block of DAG-PB; or the name of a link is not UTF-8
abbrev pub HasNoModel : List ℕ → ModelError → Type 0
HasNoModel b (NoNode e) = IsNoNode b e
HasNoModel b NameNotText = (node : NodeParts) × IsNode b node × ¬ HasTextNames node
