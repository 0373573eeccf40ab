use Rattle.dagcbor_heads.specs.Inputs.{input_reading}
use Rattle.dagcbor_heads.proofs.Looking.{taken_left}
use Rattle.files_car.specs.Extents.{of_file}
use Rattle.files_car.proofs.Spending.{off_within}
use Rattle.files_car.proofs.Pulling.{handed_on, section_pulled, section_most, no_section_pulled, no_section_at_count}
use Rattle.files_car.proofs.pull.pull_first_section.Goals as goal

pub returns-in_err-body-clause-taken : goal.returns-in_err-body-clause-taken
returns-in_err-body-clause-taken g c = handed_on _ _ _ _ c.from_residual.ensures.1 (no_section_at_count _ (of_file c.args.left.now (input_reading g.R.Read.reading c.args.input.now)) (input_reading g.R.Read.reading c.pull_counted.new.input) c.in_err-body.ensures.taken)

pub returns-in-Ok-clause-taken : goal.returns-in-Ok-clause-taken
returns-in-Ok-clause-taken g c = section_pulled c.in-Ok.section _ c.in_ok-body.ensures.taken.0 c.in_ok-body.ensures.taken.1 c.in-Ok.ensures

pub returns-in-Err-clause-taken : goal.returns-in-Err-clause-taken
returns-in-Err-clause-taken g c = no_section_pulled g.row.R-Error.Denot c.in-Err.fault _ _ _ c.in_ok-body.ensures.taken.0 (off_within c.in_ok-body.ensures.taken.1) c.in-Err.ensures

pub returns-in_err-body-clause-looked : goal.returns-in_err-body-clause-looked
returns-in_err-body-clause-looked g c = handed_on _ _ _ _ c.from_residual.ensures.1 c.in_err-body.ensures.looked

pub returns-in-Err-clause-looked : goal.returns-in-Err-clause-looked
returns-in-Err-clause-looked g c = taken_left c.in_ok-body.ensures.looked

pub returns-in-Ok-clause-at_most : goal.returns-in-Ok-clause-at_most
returns-in-Ok-clause-at_most g c = section_most c.in-Ok.section _ (input_reading g.R.Read.reading c.args.input.now) (input_reading g.R.Read.reading c.pull_counted.new.input) c.in-Ok.ensures c.in_ok-body.ensures.at_most
