use Rattle.store_on_disk.proofs.Calls.{fails_for_memory}
use Rattle.program_dagstore.proofs.taken.give_up.Goals as goal

pub returns-clause-refused : goal.returns-clause-refused
returns-clause-refused g c = fails_for_memory g.S.Store c.args.store.now c.rollback.new.self c.rollback.ensures.undone
