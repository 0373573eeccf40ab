use Rattle.files_car.proofs.Checking.{missing_told}
use Rattle.files_car.proofs.check.CarCheck.missing.Goals as goal

pub returns-clause-lists : goal.returns-clause-lists
returns-clause-lists c = λ roots sections h. missing_told c.into_vec.result c.args.self roots sections c.into_vec.ensures.sorted c.into_vec.ensures.all h
