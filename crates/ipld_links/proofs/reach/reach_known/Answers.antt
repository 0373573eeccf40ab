use Rattle.std.proofs.Common.{sym, subst}
use Rattle.ipld_links.specs.Sets.{Among}
use Rattle.ipld_links.specs.Reaching.{ListsReachable, ListsLost, KnowsLinks, stored_in}
use Rattle.ipld_links.proofs.Reaching.{all_seen, leads_next}
use Rattle.ipld_links.proofs.reach.reach_known.Goals as goal

pub loop-count-init : goal.loop-count-init
loop-count-init c = (c.in_ok-walk.ensures.walks (stored_in c.args.blocks.now), λ q m. absurd (subst (Among q) c.in_ok-walk.ensures.unseen m))

pub returns-in_default : goal.returns-in_default
returns-in_default c =
    let over = c.in_default.ensures.next (stored_in c.args.blocks.now) c.args.root.now c.loop-count.invariant.0 in record {
      reachable = subst (λ v. ListsReachable (stored_in c.args.blocks.now) c.args.root.now v.items) (sym c.into_reached.ensures.found) over.0;
      lacking = subst (λ v. ListsLost (stored_in c.args.blocks.now) c.args.root.now v.items) (sym c.into_reached.ensures.lost) over.1;
      known = λ q far. c.loop-count.invariant.1 q (subst (λ s. Among q s.keys) c.in_default.ensures.kept.0 (over.2 q far));
    }

pub returns-in-Some-hidden_under : goal.returns-in-Some-hidden_under
returns-in-Some-hidden_under c = (
  leads_next (stored_in c.args.blocks.now) c.args.root.now c.in-Some.name c.next.new.self (c.in-Some.ensures.next (stored_in c.args.blocks.now) c.args.root.now c.loop-count.invariant.0),
  c.in-Some-hidden_under.ensures (stored_in c.args.blocks.now) (sym c.stored_bytes-stored.ensures),
)

pub loop-count-preserved : goal.loop-count-preserved
loop-count-preserved c =
    let stored = stored_in c.args.blocks.now in (
      c.in_ok-visit.ensures.visits stored c.args.root.now (sym c.stored_bytes-stored.ensures) (c.in-Some.ensures.next stored c.args.root.now c.loop-count.invariant.0),
      all_seen (KnowsLinks stored) c.in-Some.name c.next.new.self c.visit.new.self (λ q m. c.loop-count.invariant.1 q (subst (λ s. Among q s.keys) c.in-Some.ensures.kept.0 m)) (c.in_default-hidden_under.ensures stored (sym c.stored_bytes-stored.ensures)) c.in_ok-visit.ensures.sees,
    )
