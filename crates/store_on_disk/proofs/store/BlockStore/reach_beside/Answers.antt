use Rattle.std.proofs.Common.{arith, sym, subst}
use Rattle.std.proofs.lemmas.Result.{err_from_is_err_and}
use Rattle.sqlite_trees.specs.View.{IsClean}
use Rattle.ipld_links.specs.Reaching.{ListsReachable, ListsLost, LeadsFar}
use Rattle.ipld_links.specs.Sets.{Among}
use Rattle.ipld_links.proofs.Reaching.{all_seen, leads_next}
use Rattle.store_on_disk.specs.Trees.{AtName, AtMetBeside, IsKnownBeside}
use Rattle.store_on_disk.proofs.Adding.{quiet_itself, quiet_then}
use Rattle.store_on_disk.proofs.Walking.{same_itself, same_then}
use Rattle.store_on_disk.proofs.Marking.{fits_same, beside_same, stops_after}
use Rattle.store_on_disk.proofs.store.BlockStore.reach_beside.Goals as goal

pub loop-count-init : goal.loop-count-init
loop-count-init g c = (
  quiet_itself g.S.Store c.args.self.now,
  λ clean. (same_itself (g.S.Store.view c.args.self.now), λ stored fits. c.in-Ok.ensures.walks stored, λ q m. absurd (subst (Among q) c.in-Ok.ensures.unseen m)),
)

pub returns-in_default-next-clause-ok : goal.returns-in_default-next-clause-ok
returns-in_default-next-clause-ok g c clean stored fits =
    let w = c.loop-count.invariant.1 clean in
    let over = c.in_default-next.ensures.next stored c.args.root.now (w.1 stored fits) in (
      subst (λ f. ListsReachable stored c.args.root.now f.items) (sym c.into_reached.ensures.found) over.0,
      subst (λ l. ListsLost stored c.args.root.now l.items) (sym c.into_reached.ensures.lost) over.1,
      λ q far. w.2 q (subst (λ s. Among q s.keys) c.in_default-next.ensures.kept.0 (over.2 q far)),
    )

pub returns-in_err-visit_beside-clause-refused : goal.returns-in_err-visit_beside-clause-refused
returns-in_err-visit_beside-clause-refused g c =
    let p = err_from_is_err_and c.from_residual.result c.from_residual.ensures.1 in
    rw (p.1, p.2) (stops_after g.S.Store (AtName c.in-Some.name) (AtMetBeside c.args.root.now c.args.kept.now) c.args.self.now c.loop-count.self c.visit_beside.new.self c.in_err-visit_beside.field-0.0 c.loop-count.invariant.0 (λ clean. (c.loop-count.invariant.1 clean).0)
    (λ clean n A B f h. (f h.1, λ stored fits. subst (LeadsFar stored c.args.root.now) (sym h.0) (leads_next stored c.args.root.now c.in-Some.name c.next.new.self (c.in-Some.ensures.next stored c.args.root.now ((c.loop-count.invariant.1 clean).1 stored fits)))))
    (λ clean. omega (arith, c.visit_beside.ensures.reads.quiet.clean)) c.in_err-visit_beside.ensures.refused)

pub loop-count-preserved : goal.loop-count-preserved
loop-count-preserved g c = (
  quiet_then g.S.Store c.args.self.now c.loop-count.self c.visit_beside.new.self c.loop-count.invariant.0 c.visit_beside.ensures.reads.quiet,
  λ clean.
      let mid : IsClean (g.S.Store.view c.loop-count.self) = omega (arith, c.visit_beside.ensures.reads.quiet.clean) in
      let w = c.loop-count.invariant.1 mid in
      let old = g.S.Store.view c.args.self.now in
      let now = g.S.Store.view c.loop-count.self in
      let visit = c.in_ok-visit_beside.ensures.ok clean in (
        same_then old now (g.S.Store.view c.visit_beside.new.self) w.0 (c.in_ok-visit_beside.ensures.reads.same clean),
        λ stored fits. visit.visits c.args.root.now stored (fits_same old now c.args.kept.now stored w.0 fits) (c.in-Some.ensures.next stored c.args.root.now (w.1 stored fits)),
        all_seen (IsKnownBeside old c.args.kept.now) c.in-Some.name c.next.new.self c.visit_beside.new.walk (λ q m. w.2 q (subst (λ s. Among q s.keys) c.in-Some.ensures.kept.0 m)) (beside_same old now c.args.kept.now c.in-Some.name w.0 visit.known) visit.sees,
      ),
)
