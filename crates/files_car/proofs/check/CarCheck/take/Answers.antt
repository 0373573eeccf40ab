use Rattle.std.proofs.Common.{refl}
use Rattle.files_car.proofs.Checking.{taken_same}
use Rattle.files_car.proofs.check.CarCheck.take.Goals as goal

pub returns-clause-after : goal.returns-clause-after
returns-clause-after c = taken_same _ _ _ _ _ refl refl refl refl c.in_ok-note.ensures.after
