use Rattle.program_dagcar_files.proofs.Leading.{data_leads, bytes_lead}
use Rattle.program_dagcar_files.proofs.laws.index_leads_there.Goals as goal

pub returns-clause-data : goal.returns-clause-data
returns-clause-data c = data_leads

pub returns-clause-bytes : goal.returns-clause-bytes
returns-clause-bytes c = bytes_lead
