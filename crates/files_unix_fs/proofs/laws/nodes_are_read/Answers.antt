use Rattle.files_unix_fs.proofs.Nodes.{nodes_read}
use Rattle.files_unix_fs.proofs.laws.nodes_are_read.Goals as goal

pub returns : goal.returns
returns c = nodes_read
