use Rattle.files_index.proofs.Leading.{leads}
use Rattle.files_index.proofs.laws.index_leads.Goals as goal

pub returns : goal.returns
returns c = leads
