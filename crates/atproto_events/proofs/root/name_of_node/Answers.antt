use Rattle.std.proofs.Common.{◌∙◌, ap}
use Rattle.ipld_links.specs.Names.{block_name}
use Rattle.atproto_mst.proofs.Written.{node_spelled}
use Rattle.atproto_events.proofs.root.name_of_node.Goals as goal

pub returns-in-Ok-clause-named : goal.returns-in-Ok-clause-named
returns-in-Ok-clause-named c = c.name_of_block.ensures ∙ ap block_name (c.deref.ensures.value ∙ (node_spelled c.args.node.now c.in-Ok.block.items c.in-Ok.ensures.value).is)
