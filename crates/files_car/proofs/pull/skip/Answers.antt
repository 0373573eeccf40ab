use Rattle.files_car.proofs.Starting.{lent_looked}
use Rattle.files_car.proofs.pull.skip.Goals as goal

pub returns-in-Some-clause-looked : goal.returns-in-Some-clause-looked
returns-in-Some-clause-looked g c = lent_looked c.in-Some.ensures.lent.0 c.in-Some.ensures.lent.1 c.in-Some.ensures.lent.2 c.in-Some.ensures.shown
