use Rattle.std.proofs.Common.{option_map, sym, subst}
use Rattle.dag_pb.specs.Node.{IsNode}
use Rattle.dag_pb.specs.Reads.{node_of}
use Rattle.dag_pb.proofs.Spelled.{spelled_read}
use Rattle.dag_pb.proofs.encode.encode_node.Goals as goal

pub returns-in-Ok-clause-is_node : goal.returns-in-Ok-clause-is_node
returns-in-Ok-clause-is_node c =
    let node = node_of c.args.links.now (option_map (λ b. b.now) c.args.data) in
    subst (λ b. IsNode b node) (sym c.in-Ok.ensures.0) (spelled_read node c.in-Ok.ensures.1)
