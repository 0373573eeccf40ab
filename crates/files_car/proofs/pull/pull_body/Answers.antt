use Rattle.std.specs.Cow.{cow_slice_items}
use Rattle.files_car.proofs.Spending.{bytes_off}
use Rattle.files_car.proofs.pull.pull_body.Goals as goal

pub returns-clause-taken : goal.returns-clause-taken
returns-clause-taken g c = bytes_off cow_slice_items _ _ _ _ _ c.pull_bytes.result c.in_ok-spend.ensures c.pull_bytes.ensures.taken
