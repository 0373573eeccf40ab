use Rattle.std.proofs.Common.{rules, refl}
use Rattle.dagcbor_heads.proofs.Windows.{head_at_once, head_at_once_looked}
use Rattle.dagcbor_heads.proofs.io_read.IoReaderRead.take_head.Goals as goal

pub returns-clause-taken : goal.returns-clause-taken
returns-clause-taken g c =
    head_at_once c.args.self.now _ c.self.inside.window c.take_head.new.self (g.R.Read.remaining c.self.inside.source) (g.R.BufRead.consumable_len c.self.inside.source) (search rules) refl c.take_head.result (search rules) (λ e. search rules) c.take_head.ensures

pub returns-clause-looked : goal.returns-clause-looked
returns-clause-looked g c =
    head_at_once_looked c.args.self.now _ c.self.inside.window c.take_head.new.self (g.R.Read.remaining c.self.inside.source) (g.R.BufRead.consumable_len c.self.inside.source) (search rules) refl c.take_head.result (search rules) refl refl c.take_head.ensures
