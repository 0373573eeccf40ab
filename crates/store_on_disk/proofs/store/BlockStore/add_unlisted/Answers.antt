use Rattle.std.proofs.Common.{◌≡◌, sym, subst, arith}
use Rattle.std.proofs.lemmas.Result.{err_from_is_err_and}
use Rattle.sqlite_trees.specs.View.{IsClean}
use Rattle.ipld_links.specs.Sets.{Among}
use Rattle.store_on_disk.proofs.Adding.{quiet_itself, quiet_then}
use Rattle.store_on_disk.proofs.Unlisted.{names_none, names_next, names_all, name_same, grows_none, grows_more, item_among}
use Rattle.store_on_disk.proofs.Walking.{fails_same, same_itself, same_then}
use Rattle.store_on_disk.proofs.store.BlockStore.add_unlisted.Goals as goal

pub loop-name-init : goal.loop-name-init
loop-name-init g c = (quiet_itself g.S.Store c.args.self.now, λ clean. (same_itself (g.S.Store.view c.args.self.now), names_none (g.S.Store.view c.args.self.now) c.args.lost.now), grows_none (λ q. Among q c.args.names.now) c.args.lost.now)

pub loop-name-preserved : goal.loop-name-preserved
loop-name-preserved g c = (
  quiet_then g.S.Store c.args.self.now c.loop-name.self c.add_if_unlisted.new.self c.loop-name.invariant.0 c.add_if_unlisted.ensures.reads.quiet,
  λ clean.
      let mid : IsClean (g.S.Store.view c.loop-name.self) = omega (arith, c.add_if_unlisted.ensures.reads.quiet.clean) in
      let w = c.loop-name.invariant.1 mid in
      let v = g.S.Store.view c.args.self.now in (
        same_then v (g.S.Store.view c.loop-name.self) (g.S.Store.view c.add_if_unlisted.new.self) w.0 (c.in_ok-add_if_unlisted.ensures.reads.same clean),
        names_next v c.args.names.now c.loop-name.name-index c.name-item.result c.args.lost.now c.loop-name.lost c.add_if_unlisted.new.lost c.loop-name-test.true c.name-item.is w.1
            (name_same v (g.S.Store.view c.loop-name.self) c.name-item.result c.loop-name.lost c.add_if_unlisted.new.lost w.0 (c.in_ok-add_if_unlisted.ensures.ok clean)),
      ),
  grows_more (λ q. Among q c.args.names.now) (λ q. q ≡ c.name-item.result) (λ q. Among q c.args.names.now) c.args.lost.now c.loop-name.lost c.add_if_unlisted.new.lost (λ q m. m)
      (λ q e. subst (λ x. Among x c.args.names.now) (sym e) (item_among c.args.names.now c.loop-name.name-index c.name-item.result c.loop-name-test.true c.name-item.is)) c.loop-name.invariant.2 c.add_if_unlisted.ensures.grows,
)

pub returns-in_err-add_if_unlisted-clause-refused : goal.returns-in_err-add_if_unlisted-clause-refused
returns-in_err-add_if_unlisted-clause-refused g c =
    let p = err_from_is_err_and c.from_residual.result c.from_residual.ensures.1 in
    rw (p.1, p.2) (fails_same g.S.Store c.args.self.now c.loop-name.self c.add_if_unlisted.new.self c.in_err-add_if_unlisted.field-0.0 c.loop-name.invariant.0 (λ clean. (c.loop-name.invariant.1 clean).0) c.add_if_unlisted.ensures.reads.quiet c.in_err-add_if_unlisted.ensures.refused)

pub returns-clause-ok : goal.returns-clause-ok
returns-clause-ok g c clean = names_all (g.S.Store.view c.args.self.now) c.args.names.now c.loop-name.name-index c.args.lost.now c.loop-name.lost (omega arith) (omega arith) (c.loop-name.invariant.1 clean).1

pub returns-in_err-add_if_unlisted-clause-grows : goal.returns-in_err-add_if_unlisted-clause-grows
returns-in_err-add_if_unlisted-clause-grows g c =
    grows_more (λ q. Among q c.args.names.now) (λ q. q ≡ c.name-item.result) (λ q. Among q c.args.names.now) c.args.lost.now c.loop-name.lost c.add_if_unlisted.new.lost (λ q m. m)
    (λ q e. subst (λ x. Among x c.args.names.now) (sym e) (item_among c.args.names.now c.loop-name.name-index c.name-item.result c.loop-name-test.true c.name-item.is)) c.loop-name.invariant.2 c.add_if_unlisted.ensures.grows
