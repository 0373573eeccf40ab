use Rattle.files_car.proofs.Running.{written_car}
use Rattle.files_car.proofs.laws.cars_are_written.Goals as goal

pub returns : goal.returns
returns g c = written_car _ g.W.Write.written g.W.Write.takes_memory
