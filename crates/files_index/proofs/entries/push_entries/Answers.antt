use Rattle.std.proofs.Common.{rules, arith, refl, ◌-◌, ◌+◌, None}
use Rattle.files_index.specs.Entries.{entry, no_last}
use Rattle.files_index.proofs.Parts.{going_none, going_more, going_stopped, going_all}
use Rattle.files_index.proofs.entries.push_entries.Goals as goal

pub loop-number-preserved : goal.loop-number-preserved
loop-number-preserved g c = going_more no_last c.in_ok-push_entry.field-0 (entry c.args.code (c.args.width - 8)) c.args.count (c.args.count - c.loop-number._number) (c.args.count - (c.loop-number._number + 1)) (g.R.Read.remaining c.args.input.now) (g.R.Read.remaining c.loop-number.input) (g.R.Read.remaining c.push_entry.new.input) c.args.entries.now.items c.loop-number.entries.items c.push_entry.new.entries.items None None (omega (arith, c.loop-number-test.true)) (λ f e. e) c.loop-number.invariant c.in_ok-push_entry.ensures

pub returns-in_err-push_entry : goal.returns-in_err-push_entry
returns-in_err-push_entry g c = let stopped = going_stopped {A = Unit {0}} {B = Unit {0}} no_last no_last _ (entry c.args.code (c.args.width - 8)) c.args.count (c.args.count - c.loop-number._number) (c.args.count - (c.loop-number._number + 1)) (g.R.Read.remaining c.args.input.now) (g.R.Read.remaining c.loop-number.input) (g.R.Read.remaining c.push_entry.new.input) c.args.entries.now.items c.loop-number.entries.items c.push_entry.new.entries.items None (omega (arith, c.loop-number-test.true)) c.loop-number.invariant c.in_err-push_entry.ensures in search (stopped, rules)

pub returns : goal.returns
returns g c = going_all {A = Unit {0}} no_last tt (entry c.args.code (c.args.width - 8)) c.args.count (c.args.count - c.loop-number._number) (g.R.Read.remaining c.args.input.now) (g.R.Read.remaining c.loop-number.input) c.args.entries.now.items c.loop-number.entries.items None (omega (arith, c.loop-number-test.false)) refl c.loop-number.invariant

pub loop-number-init : goal.loop-number-init
loop-number-init g c = going_none (entry c.args.code (c.args.width - 8)) c.args.count (c.args.count - 0) (g.R.Read.remaining c.args.input.now) c.args.entries.now.items (omega arith)
