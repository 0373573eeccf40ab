use Rattle.std.proofs.Common.{[], ◌∷◌, ◌++◌}
use Rattle.std.proofs.lemmas.Result.{err_from_is_err_and}
use Rattle.program_dagstore.specs.Names.{IsListedLine}
use Rattle.program_dagstore.proofs.Telling.{listed_stays, none_said, said_more, all_said, said_broken}
use Rattle.program_dagstore.proofs.list.list_blocks.Goals as goal

pub returns-in_err-next-clause-says : goal.returns-in_err-next-clause-says
returns-in_err-next-clause-says g c =
    let p = err_from_is_err_and c.from_residual.result c.from_residual.ensures.1 in
    rw (p.1, p.2) (said_broken g.S.Store IsListedLine c.args.store.now c.loop-count.store c.list_next.new.store _ _ _ c.loop-count.invariant.0 c.loop-count.last c.loop-count.well c.in_err-next.field-0.0 listed_stays c.loop-count.invariant.1 c.in_err-next.ensures.says c.list_next.ensures.reads.quiet)

pub returns-in-None-clause-says : goal.returns-in-None-clause-says
returns-in-None-clause-says g c =
    let k = rw c.in-None.is at c.in_ok-next.ensures.says in
    all_said g.S.Store IsListedLine c.args.store.now c.loop-count.store c.list_next.new.store _ _ _ c.loop-count.invariant.0 c.loop-count.last c.loop-count.well listed_stays c.loop-count.invariant.1 k.0 k.1 c.list_next.ensures.reads.quiet

pub loop-count-preserved : goal.loop-count-preserved
loop-count-preserved g c =
    let k = rw c.in-Some.is at c.in_ok-next.ensures.says in
    (c.loop-count.invariant.0 ++ c.in-Some.next.0 ∷ [], said_more g.S.Store IsListedLine c.args.store.now c.loop-count.store c.list_next.new.store _ _ _ c.loop-count.invariant.0 c.loop-count.last c.loop-count.well c.in-Some.next.1 c.in-Some.next.0 k.0 listed_stays c.loop-count.invariant.1 k.1 k.2 k.3 c.in_ok-next.ensures.reads.same c.list_next.ensures.reads.quiet)

pub loop-count-init : goal.loop-count-init
loop-count-init g c = ([], none_said g.S.Store IsListedLine c.args.store.now (g.W.Write.contents c.args.output.now))
