use Rattle.std.proofs.Common.{rules}
use Rattle.dagcbor_heads.proofs.Windows.{at_hand_first}
use Rattle.dagcbor_heads.proofs.io_read.IoReaderRead.at_hand.Goals as goal

pub returns : goal.returns
returns g c =
    at_hand_first _ c.self.inside.window (g.R.Read.remaining c.self.inside.source) (g.R.BufRead.consumable_len c.self.inside.source) (search rules) c.at_hand.ensures.most c.at_hand.ensures.bytes
