use Rattle.std.proofs.Common.{rules, refl}
use Rattle.dagcbor_heads.proofs.Windows.{taken_at_hand}
use Rattle.dagcbor_heads.proofs.io_ref_read.IoRefReaderRead.take_at_hand.Goals as goal

pub returns : goal.returns
returns g c =
    taken_at_hand c.args.self.now _ c.self.inside.window c.take.new.self (g.R.Read.remaining c.self.inside.source.now) (g.R.BufRead.consumable_len c.self.inside.source.now) (search rules) refl c.take.result c.args.n (search rules) (λ e. search rules) c.take.ensures.most (search rules) refl refl c.take.ensures.taken
