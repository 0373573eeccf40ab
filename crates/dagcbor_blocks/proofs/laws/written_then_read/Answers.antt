use Rattle.dagcbor_blocks.proofs.ReadingBack.{reads_back}
use Rattle.dagcbor_blocks.proofs.laws.written_then_read.Goals as goal

pub returns : goal.returns
returns c = reads_back c.files_are_unique.ensures c.args.blocks.now.blocks.entries c.iter.ensures.ordered c.args.blocks.now.sound
