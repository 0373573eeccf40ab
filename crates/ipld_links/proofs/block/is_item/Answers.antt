use Rattle.ipld_links.proofs.Testing.{item_tested}
use Rattle.ipld_links.proofs.block.is_item.Goals as goal

pub returns : goal.returns
returns c = item_tested c.args.bytes.now c.check_slice.result c.is_ok.result c.check_slice.ensures.kind c.check_slice.ensures.decoded c.is_ok.ensures.value
