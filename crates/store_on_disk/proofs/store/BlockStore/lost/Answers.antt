use Rattle.std.proofs.Common.{arith, sym, subst, [], ◌∷◌, ◌++◌}
use Rattle.std.proofs.lemmas.Result.{err_from_is_err_and}
use Rattle.sqlite_trees.specs.View.{IsClean}
use Rattle.store_on_disk.specs.Lost.{AtListed}
use Rattle.store_on_disk.proofs.Marking.{stops_after, listed_same}
use Rattle.store_on_disk.proofs.Adding.{quiet_itself, quiet_then}
use Rattle.store_on_disk.proofs.Unlisted.{LostOf, lost_none, lost_push, adds_same, lists_lost}
use Rattle.store_on_disk.proofs.Walking.{same_itself, same_then, walked_none, walked_more, next_same, holds_same, none_same}
use Rattle.store_on_disk.proofs.store.BlockStore.lost.Goals as goal

pub loop-count-init : goal.loop-count-init
loop-count-init g c = (
  quiet_itself g.S.Store c.args.self.now,
  λ clean. (same_itself (g.S.Store.view c.args.self.now), ([], walked_none (g.S.Store.view c.args.self.now), lost_none (g.S.Store.view c.args.self.now) c.new-lost.result c.new-lost.ensures.empty)),
)

pub returns-in-Ok-clause-lists : goal.returns-in-Ok-clause-lists
returns-in-Ok-clause-lists g c clean =
    let v = g.S.Store.view c.args.self.now in
    let mid : IsClean (g.S.Store.view c.loop-count.self) = omega (arith, c.add_links.ensures.reads.quiet.clean) in
    let w = c.loop-count.invariant.1 mid in
    let k = (rw c.in-None.is at c.in_ok-name.ensures.ok) clean in
    lists_lost v c.loop-count.last w.1.0 c.add_links.new.lost c.in-Ok.links w.1.1 (none_same v (g.S.Store.view c.loop-count.self) c.loop-count.last w.0 k.0)
    (subst (LostOf v w.1.0) (sym k.1) w.1.2) c.in-Ok.ensures

pub loop-count-preserved : goal.loop-count-preserved
loop-count-preserved g c = (
  quiet_then g.S.Store c.args.self.now c.loop-count.self c.add_links.new.self c.loop-count.invariant.0 c.add_links.ensures.reads.quiet,
  λ clean.
      let v = g.S.Store.view c.args.self.now in
      let now = g.S.Store.view c.loop-count.self in
      let mid : IsClean now = omega (arith, c.add_links.ensures.reads.quiet.clean) in
      let w = c.loop-count.invariant.1 mid in
      let k = (rw c.in-Some.is at c.in_ok-name.ensures.ok) clean in
      let b = k.1.0 in (
        same_then v now (g.S.Store.view c.add_links.new.self) w.0 (c.in_ok-name.ensures.reads.same clean),
        (
          w.1.0 ++ (c.in-Some.name, b) ∷ [],
          walked_more v c.loop-count.last w.1.0 c.in-Some.name b w.1.1 (next_same v now c.loop-count.last c.in-Some.name w.0 k.0) (holds_same v now c.in-Some.name b w.0 k.1.1),
          lost_push v w.1.0 c.in-Some.name b c.loop-count.lost c.add_links.new.lost w.1.2 (adds_same v now c.in-Some.name b c.loop-count.lost c.add_links.new.lost w.0 k.1.2),
        ),
      ),
)

pub returns-in_err-name-clause-refused : goal.returns-in_err-name-clause-refused
returns-in_err-name-clause-refused g c =
    let p = err_from_is_err_and c.from_residual.result c.from_residual.ensures.1 in
    rw (p.1, p.2) (stops_after g.S.Store AtListed AtListed c.args.self.now c.loop-count.self c.add_links.new.self c.in_err-name.field-0.0 c.loop-count.invariant.0 (λ clean. (c.loop-count.invariant.1 clean).0)
    (λ clean n A B f h. (f h.0, listed_same (g.S.Store.view c.args.self.now) (g.S.Store.view c.loop-count.self) n (c.loop-count.invariant.1 clean).0 h.1)) (λ clean. omega (arith, c.add_links.ensures.reads.quiet.clean)) c.in_err-name.ensures.refused)
