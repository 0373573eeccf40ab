use Rattle.std.proofs.Common.{rules}
use Rattle.std.specs.declared.io.Error.{Error}
use Rattle.program_dagstore.proofs.Exporting.{tree_said, tree_nothing, tree_unwritten}
use Rattle.program_dagstore.proofs.export.write_tree.Goals as goal

pub returns-in-Ok-clause-says : goal.returns-in-Ok-clause-says
returns-in-Ok-clause-says g c =
    tree_said c.new-writer.result c.write_tree-written.new.writer _ _ (search rules) (search rules) g.S.Store c.args.store.now c.write_tree-written.new.self c.args.root.now c.in-Ok.lost.items c.deref.result.now _ _ c.tell_lost.result c.deref.ensures.value c.in-Ok.ensures.ok c.tell_lost.ensures

pub returns-in-NotStored-clause-says : goal.returns-in-NotStored-clause-says
returns-in-NotStored-clause-says g c =
    tree_nothing c.new-writer.result c.write_tree-written.new.writer _ _ (search rules) (search rules) g.S.Store c.args.store.now c.write_tree-written.new.self Error c.args.root.now _ _ c.tell_wrong.result (rw c.in-NotStored.is at c.in-Err.ensures.refused) c.tell_wrong.ensures

pub returns-in-Unwritten-clause-says : goal.returns-in-Unwritten-clause-says
returns-in-Unwritten-clause-says g c =
    rw c.fault_of.ensures (tree_unwritten c.new-writer.result c.write_tree-written.new.writer _ _ (search rules) (search rules) g.S.Store c.args.store.now c.write_tree-written.new.self c.args.root.now _ c.in-Unwritten.error (rw c.in-Unwritten.is at c.in-Err.ensures.refused))
