use Rattle.ipld_links.proofs.Rows.{item_block_of, node_block_of}
use Rattle.ipld_links.proofs.block.is_block_of.Goals as goal

pub returns-in-113 : goal.returns-in-113
returns-in-113 c = item_block_of c.args.codec c.args.bytes.now c.is_item.result c.in-113.is c.is_item.ensures

pub returns-in-112 : goal.returns-in-112
returns-in-112 c = node_block_of c.args.codec c.args.bytes.now c.is_node.result c.in-112.is c.is_node.ensures
