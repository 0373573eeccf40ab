use Rattle.atproto_mst.specs.Trees.{nodes_of}
use Rattle.atproto_mst.specs.Entries.{entries}
use Rattle.atproto_mst.proofs.Whole.{err_only_memory}
use Rattle.atproto_mst.proofs.write.mst_root.Goals as goal

pub returns-clause-refused : goal.returns-clause-refused
returns-clause-refused c = err_only_memory _ c.write_mst.result (entries c.args.all.now) (nodes_of (entries c.args.all.now)) c.write_mst.ensures.refused
