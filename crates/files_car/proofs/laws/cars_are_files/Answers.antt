use Rattle.files_car.proofs.Starting.{file_of_car}
use Rattle.files_car.proofs.laws.cars_are_files.Goals as goal

pub returns : goal.returns
returns c = file_of_car
