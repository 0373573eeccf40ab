use Rattle.std.proofs.Common.{rules}
use Rattle.files_index.proofs.Pulling.{entry_taken}
use Rattle.files_index.proofs.entries.push_entry.Goals as goal

pub returns-in-Ok : goal.returns-in-Ok
returns-in-Ok g c = entry_taken (g.R.Read.remaining c.args.input.now) (g.R.Read.remaining c.pull.new.input) c.pull.new.room c.args.code c.args.width c.entry_of.result c.args.entries.now.items _ (search rules) c.requires.0 c.entry_of.ensures c.in-Ok.ensures.items c.in_ok-pull.ensures
