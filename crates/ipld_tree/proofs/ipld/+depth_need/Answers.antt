use Rattle.ipld_tree.proofs.Trees.{next_item, need_of_map}
use Rattle.ipld_tree.proofs.ipld.+depth_need.Goals as goal

pub Ipld::depth_need-returns-in-Map : goal.Ipld::depth_need-returns-in-Map
Ipld::depth_need-returns-in-Map t c = need_of_map c.args.self.now c.in-Map.entries _ _ _ c.in-Map.is c.need_of_values.ensures c.saturating_add-in-Map.ensures

pub need_of_items-loop-item-preserved : goal.need_of_items-loop-item-preserved
need_of_items-loop-item-preserved t c = next_item _ c.item-item.result _ _ _ _ _ c.loop-item-test.true c.item-item.is c.loop-item.invariant c.depth_need.ensures c.max-greatest.ensures
