use Rattle.store_on_disk.proofs.Marking.{reached_all, met_reached}
use Rattle.store_on_disk.proofs.store.BlockStore.reach.Goals as goal

pub returns-clause-reached : goal.returns-clause-reached
returns-clause-reached g c = reached_all _ (g.S.Store.view c.args.self.now) c.args.root.now c.new-none.result c.reach_beside.result c.new-none.ensures.empty c.reach_beside.ensures.ok

pub returns-clause-refused : goal.returns-clause-refused
returns-clause-refused g c = met_reached g.S.Store c.args.root.now c.new-none.result c.args.self.now c.reach_beside.new.self c.reach_beside.result c.new-none.ensures.empty c.reach_beside.ensures.refused
