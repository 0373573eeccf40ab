use Rattle.program_dagcar_files.proofs.Leading.{data_ways_bind, bytes_ways_bind}
use Rattle.program_dagcar_files.proofs.laws.ways_bind.Goals as goal

pub returns-clause-data : goal.returns-clause-data
returns-clause-data c = data_ways_bind

pub returns-clause-bytes : goal.returns-clause-bytes
returns-clause-bytes c = bytes_ways_bind
