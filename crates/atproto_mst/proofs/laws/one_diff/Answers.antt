use Rattle.atproto_mst.proofs.Singling.{told_once}
use Rattle.atproto_mst.proofs.laws.one_diff.Goals as goal

pub returns : goal.returns
returns c = told_once
