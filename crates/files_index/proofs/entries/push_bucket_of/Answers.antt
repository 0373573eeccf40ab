use Rattle.std.proofs.Common.{rules, arith}
use Rattle.files_index.proofs.Parts.{bucket_taken}
use Rattle.files_index.proofs.entries.push_bucket_of.Goals as goal

pub returns : goal.returns
returns g c = bucket_taken c.in_ok-push_entries.field-0 c.args.code c.args.width c.args.size c.args.last (g.R.Read.remaining c.args.input.now) (g.R.Read.remaining c.push_entries.new.input) c.args.entries.now.items c.push_entries.new.entries.items (omega (arith, c.if-width.false)) (omega (arith, c.if-width-2.false)) (search rules) (search rules) c.in_ok-push_entries.ensures
