use Rattle.std.proofs.Common.{arith, sym, subst, [], ◌∷◌, ◌++◌}
use Rattle.std.proofs.lemmas.Result.{err_from_is_err_and}
use Rattle.sqlite_trees.specs.View.{IsClean}
use Rattle.program_dagstore.specs.Checks.{IsCheckedLine}
use Rattle.program_dagstore.proofs.Telling.{none_said, said_more, all_names, all_said, said_broken}
use Rattle.program_dagstore.proofs.Missing.{MissingOf, checked_stays, adds_same, missing_none, missing_more, missing_all}
use Rattle.program_dagstore.proofs.check.check_names.Goals as goal

pub loop-count-init : goal.loop-count-init
loop-count-init g c = ([], none_said g.S.Store IsCheckedLine c.args.store.now (g.W.Write.contents c.args.output.now), λ clean. missing_none (g.S.Store.view c.args.store.now) c.args.missing.now c.requires)

pub returns-in_err-next-clause-says : goal.returns-in_err-next-clause-says
returns-in_err-next-clause-says g c =
    let p = err_from_is_err_and c.from_residual.result c.from_residual.ensures.1 in
    rw (p.1, p.2) (said_broken g.S.Store IsCheckedLine c.args.store.now c.loop-count.store c.check_next.new.store _ _ _ c.loop-count.invariant.0 c.loop-count.last c.loop-count.well c.in_err-next.field-0.0 checked_stays c.loop-count.invariant.1 c.in_err-next.ensures.says c.check_next.ensures.reads.quiet)

pub returns-in-None-clause-says : goal.returns-in-None-clause-says
returns-in-None-clause-says g c =
    let k = rw c.in-None.is at c.in_ok-next.ensures.says in
    all_said g.S.Store IsCheckedLine c.args.store.now c.loop-count.store c.check_next.new.store _ _ _ c.loop-count.invariant.0 c.loop-count.last c.loop-count.well checked_stays c.loop-count.invariant.1 k.0 k.1 c.check_next.ensures.reads.quiet

pub returns-in-None-clause-missing : goal.returns-in-None-clause-missing
returns-in-None-clause-missing g c clean =
    let v = g.S.Store.view c.args.store.now in
    let was : IsClean (g.S.Store.view c.loop-count.store) = omega (arith, c.check_next.ensures.reads.quiet.clean) in
    let k = rw c.in-None.is at c.in_ok-next.ensures.says in
    let m = (rw c.in-None.is at c.in_ok-next.ensures.missing) clean in
    let i = c.loop-count.invariant in
    let all = all_names g.S.Store IsCheckedLine c.args.store.now c.loop-count.store c.check_next.new.store _ _ i.0 c.loop-count.last c.loop-count.well i.1 k.1 c.check_next.ensures.reads.quiet clean in
    missing_all v i.0 c.check_next.new.missing all (subst (MissingOf v i.0) (sym m) (i.2 was))

pub loop-count-preserved : goal.loop-count-preserved
loop-count-preserved g c =
    let v = g.S.Store.view c.args.store.now in
    let mid = g.S.Store.view c.loop-count.store in
    let new = g.S.Store.view c.check_next.new.store in
    let was : IsClean new → IsClean mid = λ clean. omega (arith, c.check_next.ensures.reads.quiet.clean) in
    let k = rw c.in-Some.is at c.in_ok-next.ensures.says in
    let m = rw c.in-Some.is at c.in_ok-next.ensures.missing in
    let i = c.loop-count.invariant in (
      i.0 ++ c.in-Some.next.0 ∷ [],
      said_more g.S.Store IsCheckedLine c.args.store.now c.loop-count.store c.check_next.new.store _ _ _ c.loop-count.invariant.0 c.loop-count.last c.loop-count.well c.in-Some.next.1 c.in-Some.next.0 k.0 checked_stays i.1 k.1 k.2 k.3 c.in_ok-next.ensures.reads.same c.check_next.ensures.reads.quiet,
      λ clean. missing_more v i.0 c.in-Some.next.0 c.loop-count.missing c.check_next.new.missing (i.2 (was clean)) (adds_same v mid c.in-Some.next.0 c.loop-count.missing c.check_next.new.missing (i.1.first (was clean)).0 (m clean)),
    )
