use Rattle.std.proofs.Common.{rules, arith, ◌-◌, ◌+◌, Some}
use Rattle.files_index.specs.Entries.{code_part, is_last, any_last}
use Rattle.files_index.proofs.Parts.{going_none, going_more, going_stopped, going_all}
use Rattle.files_index.proofs.entries.push_count.Goals as goal

pub loop-number-preserved : goal.loop-number-preserved
loop-number-preserved g c = going_more is_last c.in_ok-push_code.field-0 code_part c.args.count (c.args.count - c.loop-number._number) (c.args.count - (c.loop-number._number + 1)) (g.R.Read.remaining c.args.input.now) (g.R.Read.remaining c.loop-number.input) (g.R.Read.remaining c.push_code.new.input) c.args.entries.now.items c.loop-number.entries.items c.push_code.new.entries.items c.loop-number.last (Some c.in_ok-push_code.field-0) (omega (arith, c.loop-number-test.true)) (λ f e. e) c.loop-number.invariant c.in_ok-push_code.ensures

pub returns-in_err-push_code : goal.returns-in_err-push_code
returns-in_err-push_code g c = let stopped = going_stopped {B = Unit {0}} is_last any_last _ code_part c.args.count (c.args.count - c.loop-number._number) (c.args.count - (c.loop-number._number + 1)) (g.R.Read.remaining c.args.input.now) (g.R.Read.remaining c.loop-number.input) (g.R.Read.remaining c.push_code.new.input) c.args.entries.now.items c.loop-number.entries.items c.push_code.new.entries.items c.loop-number.last (omega (arith, c.loop-number-test.true)) c.loop-number.invariant c.in_err-push_code.ensures in search (stopped, rules)

pub returns : goal.returns
returns g c = going_all {A = Unit {0}} any_last tt code_part c.args.count (c.args.count - c.loop-number._number) (g.R.Read.remaining c.args.input.now) (g.R.Read.remaining c.loop-number.input) c.args.entries.now.items c.loop-number.entries.items c.loop-number.last (omega (arith, c.loop-number-test.false)) tt c.loop-number.invariant

pub loop-number-init : goal.loop-number-init
loop-number-init g c = going_none code_part c.args.count (c.args.count - 0) (g.R.Read.remaining c.args.input.now) c.args.entries.now.items (omega arith)
