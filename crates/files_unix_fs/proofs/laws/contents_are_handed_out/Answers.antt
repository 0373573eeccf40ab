use Rattle.files_unix_fs.proofs.Parts.{contents_handed_out}
use Rattle.files_unix_fs.proofs.laws.contents_are_handed_out.Goals as goal

pub returns : goal.returns
returns c = contents_handed_out
