use Rattle.std.proofs.Common.{◌∙◌, option_map}
use Rattle.ipld_links.proofs.Reaching.{visited, visited_seen, is_there_now}
use Rattle.ipld_links.proofs.reach.Walk.visit.Goals as goal

pub returns-clause-visits : goal.returns-clause-visits
returns-clause-visits c =
    visited c.args.name (option_map (λ b. b.now) c.args.stored) c.args.self.now c.see.new.self c.sort_out.new.self c.push_all.new.list c.in_ok-links.links.items c.push_all.result c.deref.result.now c.is_some.result
    c.in_ok-links.ensures c.in_ok-see.ensures (is_there_now (λ b. b.now) c.args.stored c.is_some.result c.is_some.ensures) c.in_ok-sort_out.ensures (c.deref.ensures.value ∙ c.reverse.ensures.items) c.push_all.ensures

pub returns-clause-sees : goal.returns-clause-sees
returns-clause-sees c = visited_seen c.args.name (option_map (λ b. b.now) c.args.stored) c.args.self.now c.see.new.self c.sort_out.new.self c.push_all.new.list c.in_ok-links.links.items c.push_all.result c.is_some.result c.in_ok-see.ensures c.in_ok-sort_out.ensures
