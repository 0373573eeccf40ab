use Rattle.dagcbor_blocks.proofs.Members.{finds_members}
use Rattle.dagcbor_blocks.proofs.laws.lookup_finds_members.Goals as goal

pub returns : goal.returns
returns c = finds_members c.args.blocks.now.blocks.entries c.iter.ensures.ordered
