use Rattle.program_index.proofs.Listing.{lists}
use Rattle.program_index.proofs.laws.index_lists.Goals as goal

pub returns : goal.returns
returns c = lists
