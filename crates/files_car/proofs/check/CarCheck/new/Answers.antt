use Rattle.files_car.proofs.Checking.{after_header}
use Rattle.files_car.proofs.check.CarCheck.new.Goals as goal

pub returns-clause-after : goal.returns-clause-after
returns-clause-after c = after_header c.args.roots.now c.new-held.result c.new-missing.result c.add_all.new.self c.new-held.ensures c.new-missing.ensures c.in_ok-add_all.ensures.added
