use Rattle.std.proofs.Common.{rules}
use Rattle.std.specs.Int.{w64}
use Rattle.files_index.proofs.Pulling.{number_taken}
use Rattle.files_index.proofs.entries.pull_number.Goals as goal

pub returns : goal.returns
returns g c = number_taken w64 (g.R.Read.remaining c.args.input.now) (g.R.Read.remaining c.pull.new.input) c.pull.new.room c.from_le_bytes.result (search rules) c.from_le_bytes.ensures c.in_ok-pull.ensures
