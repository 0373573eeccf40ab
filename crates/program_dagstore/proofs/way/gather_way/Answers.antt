use Rattle.std.proofs.Common.{arith, sym, ◌∙◌, rules}
use Rattle.std.proofs.lemmas.Result.{err_from_is_err_and}
use Rattle.sqlite_trees.specs.View.{IsClean}
use Rattle.ipld_paths.specs.Paths.{segments}
use Rattle.ipld_links.specs.Reaching.{stored_in}
use Rattle.ipld_paths.proofs.Deciding.{ends_no_further}
use Rattle.store_on_disk.proofs.Adding.{quiet_itself, quiet_then}
use Rattle.store_on_disk.proofs.Trees.{shows_same}
use Rattle.store_on_disk.proofs.Walking.{same_itself, same_then}
use Rattle.program_dagstore.proofs.Gathering.{nothing_held, none_gathered, gathered_on, gathered_all, way_fails}
use Rattle.program_dagstore.proofs.way.gather_way.Goals as goal

pub loop-count-init : goal.loop-count-init
loop-count-init g c = (
  search rules,
  quiet_itself g.S.Store c.args.store.now,
  λ clean. same_itself (g.S.Store.view c.args.store.now),
  λ clean stored shows. none_gathered stored c.args.root.now (segments c.args.path.now) (stored_in c.new-held.result) (nothing_held c.new-held.result c.new-held.ensures.empty),
)

pub loop-count-preserved : goal.loop-count-preserved
loop-count-preserved g c =
    let old = g.S.Store.view c.args.store.now in
    let mid = g.S.Store.view c.loop-count.store in
    let new = g.S.Store.view c.hold.new.store in
    let was : IsClean new → IsClean mid = λ clean. omega (arith, c.hold.ensures.reads.quiet.clean) in (
      search rules,
      quiet_then g.S.Store c.args.store.now c.loop-count.store c.hold.new.store c.loop-count.invariant.1 c.hold.ensures.reads.quiet,
      λ clean. same_then old mid new (c.loop-count.invariant.2 (was clean)) (c.in_ok-hold.ensures.reads.same clean),
      λ clean stored shows.
          gathered_on mid stored c.args.root.now c.loop-count.block c.in-Ok-GoesOn.next.block (segments c.args.path.now) _ _ (stored_in c.loop-count.held) (stored_in c.hold.new.held)
          (shows_same old mid stored (c.loop-count.invariant.2 (was clean)) shows) (c.loop-count.invariant.3 (was clean) stored shows) (c.in_ok-hold.ensures.held clean)
          (λ s e. (rw c.in-Ok-GoesOn.field-0-is at c.in-Ok-GoesOn.ensures) s (e ∙ sym c.stored_bytes.ensures)),
    )

pub returns-in-Ok-Ends-clause-held : goal.returns-in-Ok-Ends-clause-held
returns-in-Ok-Ends-clause-held g c clean stored shows =
    let old = g.S.Store.view c.args.store.now in
    let mid = g.S.Store.view c.loop-count.store in
    let was : IsClean mid = omega (arith, c.hold.ensures.reads.quiet.clean) in
    gathered_all mid stored c.args.root.now c.loop-count.block (segments c.args.path.now) _ (stored_in c.loop-count.held) (stored_in c.hold.new.held)
    (shows_same old mid stored (c.loop-count.invariant.2 was) shows) (c.loop-count.invariant.3 was stored shows) (c.in_ok-hold.ensures.held clean)
    (λ s e. let step = (rw c.in-Ok-Ends.field-0-is at c.in-Ok-Ends.ensures) s (e ∙ sym c.stored_bytes.ensures) in ends_no_further s c.loop-count.block _ c.in-Ok-Ends._end step.0 step.1)

pub returns-in_err-hold-clause-fault : goal.returns-in_err-hold-clause-fault
returns-in_err-hold-clause-fault g c =
    let p = err_from_is_err_and c.from_residual.result c.from_residual.ensures.1 in
    rw (p.1, p.2) (way_fails g.S.Store c.args.root.now c.loop-count.block (segments c.args.path.now) (segments c.loop-count.left.now) (stored_in c.loop-count.held) c.args.store.now c.loop-count.store c.hold.new.store c.in_err-hold.field-0.0
    c.loop-count.invariant.1 c.loop-count.invariant.2 c.hold.ensures.reads.quiet c.loop-count.invariant.3 c.in_err-hold.ensures.fault)

pub returns-in-Err-clause-fault : goal.returns-in-Err-clause-fault
returns-in-Err-clause-fault g c = λ clean.
    let old = g.S.Store.view c.args.store.now in
    let mid = g.S.Store.view c.loop-count.store in
    let new = g.S.Store.view c.hold.new.store in
    let was : IsClean mid = omega (arith, c.hold.ensures.reads.quiet.clean) in
    same_then old mid new (c.loop-count.invariant.2 was) (c.in_ok-hold.ensures.reads.same clean)
