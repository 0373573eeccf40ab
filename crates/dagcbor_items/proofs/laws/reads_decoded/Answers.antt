use Rattle.dagcbor_items.proofs.Reading.{reads_are_decoded}
use Rattle.dagcbor_items.proofs.laws.reads_decoded.Goals as goal

pub returns : goal.returns
returns c = reads_are_decoded
