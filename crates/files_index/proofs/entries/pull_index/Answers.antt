use Rattle.std.proofs.Common.{rules}
use Rattle.files_index.proofs.Pulling.{index_taken}
use Rattle.files_index.proofs.entries.pull_index.Goals as goal

pub returns : goal.returns
returns g c = index_taken _ (g.R.Read.remaining c.args.input.now) (g.R.Read.remaining c.pull.new.input) c.pull.new.room (search rules) c.in_ok-pull.ensures c.pull_listing.ensures
