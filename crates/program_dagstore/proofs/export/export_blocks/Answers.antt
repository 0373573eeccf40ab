use Rattle.std.proofs.Common.{rules}
use Rattle.dagcbor_items.specs.Walks.{forms}
use Rattle.program_dagstore.proofs.Exporting.{exported, not_exported}
use Rattle.program_dagstore.proofs.export.export_blocks.Goals as goal

pub returns-in-Ok-clause-exports : goal.returns-in-Ok-clause-exports
returns-in-Ok-clause-exports g c = exported c.new-writer.result c.write_car-written.new.writer _ _ (search rules) (search rules) g.S.Store c.args.store.now c.write_car-written.new.self (forms c.args.roots.now) c.in-Ok.ensures.ok

pub returns-in-Err-clause-exports : goal.returns-in-Err-clause-exports
returns-in-Err-clause-exports g c = rw c.fault_of.ensures (not_exported c.new-writer.result c.write_car-written.new.writer _ _ (search rules) (search rules) g.S.Store c.args.store.now c.write_car-written.new.self (forms c.args.roots.now) c.in-Err.error c.in-Err.ensures.refused)
