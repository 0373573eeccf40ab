use Rattle.std.proofs.Common.{rules, arith, refl}
use Rattle.std.proofs.lemmas.Result.{err_from_is_err_and}
use Rattle.ipld_paths.specs.Paths.{segments}
use Rattle.program_parts.specs.FileNames.{HasEntry, NamesNothing, LeadsByNames, EndsByNames}
use Rattle.program_parts.specs.declared.file_names.NamesEnd.{NamesEnd}
use Rattle.store_on_disk.proofs.Adding.{quiet_itself, quiet_then}
use Rattle.store_on_disk.proofs.Walking.{same_itself, same_then}
use Rattle.program_dagstore.specs.Contents.{IsOnTheWay}
use Rattle.program_dagstore.proofs.Contents.{got_nothing, got_so, got_on, got_stored_so, fails_at, CameTo, came_nowhere, came_on, came_there, came_no_further, came_on_the_way}
use Rattle.program_dagstore.proofs.file.find_file.Goals as goal

pub loop-name-init : goal.loop-name-init
loop-name-init g c = (
  search rules,
  quiet_itself g.S.Store c.args.store.now,
  λ clean. same_itself (g.S.Store.view c.args.store.now),
  got_nothing (g.S.Store.view c.args.store.now) (g.S.Store.view c.args.store.now) (CameTo c.args.root.now (segments c.args.path.now) c.args.root.now (segments c.args.path.now)) (λ stored. came_nowhere stored c.args.root.now (segments c.args.path.now)),
)

pub loop-name-preserved : goal.loop-name-preserved
loop-name-preserved g c =
    let root = c.args.root.now in
    let path = segments c.args.path.now in
    let old = g.S.Store.view c.args.store.now in
    let mid = g.S.Store.view c.loop-name.store in
    let new = g.S.Store.view c.find_entry.new.store in (
      search rules,
      quiet_then g.S.Store c.args.store.now c.loop-name.store c.find_entry.new.store c.loop-name.invariant.1 c.find_entry.ensures.reads.quiet,
      λ clean. same_then old mid new (c.loop-name.invariant.2 (omega (arith, c.find_entry.ensures.reads.quiet.clean))) (c.in_ok-next.ensures.reads.same clean),
      got_on g.S.Store c.args.store.now c.loop-name.store c.find_entry.new.store (CameTo root path c.loop-name.block (segments c.loop-name.left.now)) (λ stored. HasEntry stored c.loop-name.block c.in-Some.name.now c.in-Ok.next) (CameTo root path c.in-Ok.next (segments c.in-Some.more.now))
          c.loop-name.invariant.2 c.find_entry.ensures.reads.quiet c.loop-name.invariant.3 (rw c.in-Ok.is at c.in_ok-next.ensures.found)
          (λ stored h entry. came_on stored root c.loop-name.block c.in-Ok.next path (segments c.loop-name.left.now) (segments c.in-Some.more.now) c.in-Some.name.now c.in-Some.ensures.first h entry),
    )

pub returns-in_err-next-clause-fault : goal.returns-in_err-next-clause-fault
returns-in_err-next-clause-fault g c =
    let root = c.args.root.now in
    let path = segments c.args.path.now in
    let p = err_from_is_err_and c.from_residual.result c.from_residual.ensures.1 in
    rw (p.1, p.2) (fails_at g.S.Store c.args.store.now c.loop-name.store c.find_entry.new.store c.loop-name.block (IsOnTheWay root path) c.in_err-next.field-0.0
    c.loop-name.invariant.1 c.loop-name.invariant.2 c.find_entry.ensures.reads.quiet
    (λ clean stored shows. came_on_the_way stored root c.loop-name.block path (segments c.loop-name.left.now) (got_stored_so g.S.Store c.args.store.now c.loop-name.store (CameTo root path c.loop-name.block (segments c.loop-name.left.now)) c.loop-name.invariant.3 clean stored shows))
    c.in_err-next.ensures.fault)

pub returns-in-Err-clause-found : goal.returns-in-Err-clause-found
returns-in-Err-clause-found g c =
    let root = c.args.root.now in
    let path = segments c.args.path.now in
    let end : NamesEnd = record { block = c.loop-name.block; name = c.in-Some.name; cause = c.in-Err.cause } in
    got_on g.S.Store c.args.store.now c.loop-name.store c.find_entry.new.store (CameTo root path c.loop-name.block (segments c.loop-name.left.now)) (λ stored. NamesNothing stored c.loop-name.block c.in-Some.name.now c.in-Err.cause) (λ stored. EndsByNames stored root path end)
    c.loop-name.invariant.2 c.find_entry.ensures.reads.quiet c.loop-name.invariant.3 (rw c.in-Err.is at c.in_ok-next.ensures.found)
    (λ stored h nothing. came_no_further stored root c.loop-name.block path (segments c.loop-name.left.now) (segments c.in-Some.more.now) end c.in-Some.ensures.first refl h nothing)

pub returns-clause-found : goal.returns-clause-found
returns-clause-found g c =
    let root = c.args.root.now in
    let path = segments c.args.path.now in
    let old = g.S.Store.view c.args.store.now in
    let new = g.S.Store.view c.loop-name.store in
    got_so old new (CameTo root path c.loop-name.block (segments c.loop-name.left.now)) (λ stored. LeadsByNames stored root path c.loop-name.block) c.loop-name.invariant.3
    (λ stored h. came_there stored root c.loop-name.block path (segments c.loop-name.left.now) c.in_default.ensures.first h)
