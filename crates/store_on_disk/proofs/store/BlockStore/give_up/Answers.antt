use Rattle.store_on_disk.proofs.Calls.{fails_for_memory}
use Rattle.store_on_disk.proofs.store.BlockStore.give_up.Goals as goal

pub returns-clause-refused : goal.returns-clause-refused
returns-clause-refused g c = fails_for_memory g.S.Store c.args.self.now c.rollback.new.self c.rollback.ensures.undone

pub returns-clause-walk : goal.returns-clause-walk
returns-clause-walk g c = fails_for_memory g.S.Store c.args.self.now c.rollback.new.self c.rollback.ensures.undone
