use Rattle.std.proofs.Common.{rules, arith, ◌-◌, ◌+◌, Some}
use Rattle.files_index.specs.Entries.{bucket, is_last, any_last}
use Rattle.files_index.proofs.Parts.{going_none, going_more, going_stopped, going_all}
use Rattle.files_index.proofs.entries.push_widths.Goals as goal

pub loop-number-preserved : goal.loop-number-preserved
loop-number-preserved g c = going_more is_last c.in_ok-push_bucket.field-0 (bucket c.args.code) c.args.count (c.args.count - c.loop-number._number) (c.args.count - (c.loop-number._number + 1)) (g.R.Read.remaining c.args.input.now) (g.R.Read.remaining c.loop-number.input) (g.R.Read.remaining c.push_bucket.new.input) c.args.entries.now.items c.loop-number.entries.items c.push_bucket.new.entries.items c.loop-number.last (Some c.in_ok-push_bucket.field-0) (omega (arith, c.loop-number-test.true)) (λ f e. e) c.loop-number.invariant c.in_ok-push_bucket.ensures

pub returns-in_err-push_bucket : goal.returns-in_err-push_bucket
returns-in_err-push_bucket g c = let stopped = going_stopped {B = Unit {0}} is_last any_last _ (bucket c.args.code) c.args.count (c.args.count - c.loop-number._number) (c.args.count - (c.loop-number._number + 1)) (g.R.Read.remaining c.args.input.now) (g.R.Read.remaining c.loop-number.input) (g.R.Read.remaining c.push_bucket.new.input) c.args.entries.now.items c.loop-number.entries.items c.push_bucket.new.entries.items c.loop-number.last (omega (arith, c.loop-number-test.true)) c.loop-number.invariant c.in_err-push_bucket.ensures in search (stopped, rules)

pub returns : goal.returns
returns g c = going_all {A = Unit {0}} any_last tt (bucket c.args.code) c.args.count (c.args.count - c.loop-number._number) (g.R.Read.remaining c.args.input.now) (g.R.Read.remaining c.loop-number.input) c.args.entries.now.items c.loop-number.entries.items c.loop-number.last (omega (arith, c.loop-number-test.false)) tt c.loop-number.invariant

pub loop-number-init : goal.loop-number-init
loop-number-init g c = going_none (bucket c.args.code) c.args.count (c.args.count - 0) (g.R.Read.remaining c.args.input.now) c.args.entries.now.items (omega arith)
