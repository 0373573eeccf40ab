use Rattle.files_car.proofs.Spending.{byte_off}
use Rattle.files_car.proofs.pull.pull_next.Goals as goal

pub returns-clause-taken : goal.returns-clause-taken
returns-clause-taken g c = byte_off _ _ _ _ c.pull_byte.result c.in_ok-spend.ensures c.pull_byte.ensures.taken
