use Rattle.std.proofs.Common.{rules, subst}
use Rattle.ipld_links.specs.Reaching.{IsWalked}
use Rattle.ipld_links.proofs.Members.{any_among}
use Rattle.ipld_links.proofs.Reaching.{not_seen, walk_on, walk_over}
use Rattle.ipld_links.proofs.reach.Walk.next.Goals as goal

pub returns-then-not-contains-clause-next : goal.returns-then-not-contains-clause-next
returns-then-not-contains-clause-next c = λ stored root h.
    let w = c.loop-name.self in
    (not_seen c.in-Some.name w.seen (search rules), subst (λ ws. IsWalked stored root w.seen.keys ws w.found.items w.lost.items) c.in-Some.ensures.items (c.loop-name.invariant.0 stored root h))

pub loop-name-preserved : goal.loop-name-preserved
loop-name-preserved c = (
  λ stored root h.
      let w = c.loop-name.self in
      walk_on stored root c.in-Some.name w.seen.keys w.waiting.items c.pop.new.self.items w.found.items w.lost.items c.in-Some.ensures.items (any_among c.in-Some.name w.seen.keys (search rules)) (c.loop-name.invariant.0 stored root h),
  c.loop-name.invariant.1,
)

pub returns-clause-next : goal.returns-clause-next
returns-clause-next c = λ stored root h.
    let w = c.loop-name.self in
    walk_over stored root w.seen.keys w.waiting.items w.found.items w.lost.items (search rules) (c.loop-name.invariant.0 stored root h)
