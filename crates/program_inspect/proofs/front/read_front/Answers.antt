use Rattle.std.proofs.Common.{arith, ◌+◌, subst, sym, IfSome}
use Rattle.program_inspect.proofs.Fronts.{TookSome, took_more, took_all, took_whole}
use Rattle.program_inspect.proofs.front.read_front.Goals as goal

pub returns-in-None : goal.returns-in-None
returns-in-None g c = took_whole (g.R.Read.remaining c.args.input.now) (g.R.Read.remaining c.loop-place.input) _ c.loop-place._place 51 c.in_ok-byte.field-0 c.loop-place.front.items c.in-None.is (omega (arith, c.loop-place-test.true)) c.loop-place.invariant c.in_ok-byte.ensures

pub loop-place-preserved : goal.loop-place-preserved
loop-place-preserved g c = subst (λ items. IfSome (g.R.Read.remaining c.args.input.now) (λ b. TookSome (c.loop-place._place + 1) b items (g.R.Read.remaining c.next_byte.new.input))) (sym c.in_ok-push_byte-in-Some.ensures)
    (took_more (g.R.Read.remaining c.args.input.now) (g.R.Read.remaining c.loop-place.input) _ c.loop-place._place c.in-Some.byte c.in_ok-byte.field-0 c.loop-place.front.items c.in-Some.is c.loop-place.invariant c.in_ok-byte.ensures)

pub returns : goal.returns
returns g c = took_all (g.R.Read.remaining c.args.input.now) (g.R.Read.remaining c.loop-place.input) c.loop-place._place 51 c.loop-place.front.items (omega (arith, c.loop-place-test.false, c.loop-place.auto._place-end)) c.loop-place.invariant
