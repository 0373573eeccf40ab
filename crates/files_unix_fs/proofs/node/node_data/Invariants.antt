use Rattle.std.proofs.Common.{length}
use Rattle.files_unix_fs.specs.Nodes.{data_in}
use Rattle.files_unix_fs.proofs.Steps.{HasSame}
use Rattle.files_unix_fs.proofs.node.node_data.Given as goal

abbrev pub invariant-loop-field : goal.invariant-loop-field
invariant-loop-field l = HasSame data_in l.block l.rest

abbrev pub decreases-loop-field : goal.decreases-loop-field
decreases-loop-field l = length l.rest
