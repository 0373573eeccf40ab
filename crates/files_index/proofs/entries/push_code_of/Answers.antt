use Rattle.std.proofs.Common.{rules}
use Rattle.files_index.proofs.Parts.{code_taken}
use Rattle.files_index.proofs.entries.push_code_of.Goals as goal

pub returns : goal.returns
returns g c = code_taken c.in_ok-push_buckets.field-0 c.args.code c.args.last (g.R.Read.remaining c.args.input.now) (g.R.Read.remaining c.push_buckets.new.input) c.args.entries.now.items c.push_buckets.new.entries.items (search rules) c.in_ok-push_buckets.ensures
