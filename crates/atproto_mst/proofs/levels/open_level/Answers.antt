use Rattle.std.proofs.Common.{[], ◌∷◌, ◌++◌, sym, ap, ◌∙◌, append_assoc}
use Rattle.ipld_links.specs.Reaching.{stored_in}
use Rattle.ipld_links.specs.Sets.{members}
use Rattle.atproto_mst.specs.Nodes.{node_told}
use Rattle.atproto_mst.specs.Levels.{row_items, held_items, level_items, link_names, OpensItems, LevelLinksRefused}
use Rattle.atproto_mst.proofs.Opening.{level_next, more_refused, links_within}
use Rattle.atproto_mst.proofs.Refusals.{handed_on}
use Rattle.atproto_mst.proofs.levels.open_level.Goals as goal

pub returns-in_err-open_entry : goal.returns-in_err-open_entry
returns-in_err-open_entry c =
    handed_on (λ below. OpensItems (stored_in c.args.blocks.now) (members c.args.dropped.now) (level_items c.args.level) (level_items below))
    (LevelLinksRefused (stored_in c.args.blocks.now) (link_names (level_items c.args.level))) c.from_residual-in_err-open_entry.result c.in_err-open_entry.field-0.0
    c.from_residual-in_err-open_entry.ensures.1
    (more_refused (stored_in c.args.blocks.now) (link_names (held_items (c.in-Some.held ∷ []))) (link_names (level_items c.args.level)) c.in_err-open_entry.field-0.0
    (links_within c.args.level.left c.args.level.entries.items c.loop-held.yielded c.next.new.self.rest.items c.in-Some.held
    (c.loop-held.invariant.all ∙ ap (λ l. c.loop-held.yielded ++ l) c.in-Some.ensures.steps.0))
    c.in_err-open_entry.ensures)

pub loop-held-preserved : goal.loop-held-preserved
loop-held-preserved c = record {
  opened = level_next (stored_in c.args.blocks.now) (members c.args.dropped.now) c.loop-held.yielded c.in-Some.held (row_items [] (node_told c.in_ok-node.node).rows)
      (held_items c.loop-held.below.items) (held_items c.open_entry.new.below.items) c.loop-held.invariant.opened c.in_ok-open_entry.ensures;
  all = c.loop-held.invariant.all ∙ ap (λ l. c.loop-held.yielded ++ l) c.in-Some.ensures.steps.0
      ∙ sym (append_assoc c.loop-held.yielded (c.in-Some.held ∷ []) c.next.new.self.rest.items);
}
