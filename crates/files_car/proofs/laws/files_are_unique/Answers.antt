use Rattle.files_car.proofs.Starting.{file_unique}
use Rattle.files_car.proofs.laws.files_are_unique.Goals as goal

pub returns : goal.returns
returns c = file_unique
