use Rattle.program_parts.proofs.Proving.{data_decided, bytes_decided}
use Rattle.program_dagcar.proofs.laws.proofs_decide.Goals as goal

pub returns-clause-data : goal.returns-clause-data
returns-clause-data c = data_decided

pub returns-clause-bytes : goal.returns-clause-bytes
returns-clause-bytes c = bytes_decided
