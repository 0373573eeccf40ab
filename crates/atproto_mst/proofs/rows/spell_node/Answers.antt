use Rattle.atproto_mst.proofs.Written.{node_spelled}
use Rattle.atproto_mst.proofs.rows.spell_node.Goals as goal

pub returns-in-Ok : goal.returns-in-Ok
returns-in-Ok c = node_spelled c.args.node.now c.in-Ok.block.items c.in-Ok.ensures.value
