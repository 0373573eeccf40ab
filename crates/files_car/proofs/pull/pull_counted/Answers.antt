use Rattle.std.proofs.Common.{ℕ}
use Rattle.dagcbor_heads.specs.Inputs.{input_reading}
use Rattle.std.specs.Cow.{cow_slice_items}
use Rattle.dagcbor_items.proofs.Looks.{looks_after_some}
use Rattle.files_car.proofs.Pulling.{handed_on, counted_pulled, counted_sized, counted_lacks, lacks_more}
use Rattle.files_car.proofs.pull.pull_counted.Goals as goal

pub returns-in_err-count-clause-taken : goal.returns-in_err-count-clause-taken
returns-in_err-count-clause-taken g c = handed_on _ _ _ _ c.from_residual.ensures.1 c.in_err-count.ensures.taken

pub returns-clause-taken : goal.returns-clause-taken
returns-clause-taken g c = counted_pulled cow_slice_items c.pull_body.result c.in_ok-count.count _ _ _ _ _ _ c.in_ok-count.ensures.taken.0 c.in_ok-count.ensures.taken.1 c.pull_body.ensures.taken

pub returns-in_err-count-clause-looked : goal.returns-in_err-count-clause-looked
returns-in_err-count-clause-looked g c = handed_on _ _ _ _ c.from_residual.ensures.1 c.in_err-count.ensures.looked

pub returns-clause-looked : goal.returns-clause-looked
returns-clause-looked g c = looks_after_some _ c.pull_body.result c.in_ok-count.ensures.looked c.pull_body.ensures.looked

pub returns-clause-at_most : goal.returns-clause-at_most
returns-clause-at_most g c = counted_sized cow_slice_items c.pull_body.result c.in_ok-count.count _ _ (input_reading g.R.Read.reading c.args.input.now) (input_reading g.R.Read.reading c.pull_length.new.reader) (input_reading g.R.Read.reading c.pull_body.new.input) c.in_ok-count.ensures.at_most c.pull_body.ensures.taken c.pull_body.ensures.at_most

pub returns-in_err-count-clause-memory : goal.returns-in_err-count-clause-memory
returns-in_err-count-clause-memory g c = lacks_more ℕ _ _ _ _ c.from_residual.ensures.1 (λ none. absurd none) c.in_err-count.ensures.memory

pub returns-clause-memory : goal.returns-clause-memory
returns-clause-memory g c = counted_lacks c.pull_body.result c.in_ok-count.count c.in_ok-count.ensures.taken.1 c.pull_body.ensures.memory
