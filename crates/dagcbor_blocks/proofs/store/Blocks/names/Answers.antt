use Rattle.std.proofs.lemmas.Result.{err_from_is_err_and}
use Rattle.dagcbor_blocks.proofs.Holding.{names_more, names_listed, another_held}
use Rattle.dagcbor_blocks.proofs.store.Blocks.names.Goals as goal

pub loop-name-preserved : goal.loop-name-preserved
loop-name-preserved c = names_more c.args.self.now.blocks.entries c.loop-name.name-iterator c.next.new.self (c.in-Some.name.now, c.in-Some._block.now) c.loop-name.names.items _ c.in-Some.ensures.steps c.loop-name.invariant c.in_ok-push.ensures.items

pub returns-clause-names : goal.returns-clause-names
returns-clause-names c = names_listed c.args.self.now.blocks.entries c.loop-name.name-iterator c.loop-name.names.items c.in-None.ensures.steps.0 c.loop-name.invariant c.iter-name-items.ensures.ordered

pub returns-in_err-push-clause-memory : goal.returns-in_err-push-clause-memory
returns-in_err-push-clause-memory c =
    let p = err_from_is_err_and c.from_residual.result c.from_residual.ensures.1 in
    rw p.1 (another_held c.args.self.now.blocks.entries c.loop-name.name-iterator c.next.new.self (c.in-Some.name.now, c.in-Some._block.now) c.loop-name.names.items c.in-Some.ensures.steps c.loop-name.invariant)
