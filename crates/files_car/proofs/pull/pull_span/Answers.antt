use Rattle.std.proofs.Common.{sym, ap, ◌∙◌, subst, length}
use Rattle.dagcbor_heads.specs.Fronts.{Takes}
use Rattle.dagcbor_heads.specs.Inputs.{input_reading}
use Rattle.dagcbor_heads.proofs.Looking.{some_both}
use Rattle.files_car.proofs.Starting.{fields_cut, fields_fault, skip_cut, span_taken}
use Rattle.files_car.proofs.Pulling.{handed_on}
use Rattle.files_car.proofs.pull.pull_span.Goals as goal

pub returns-in_err-fields-clause-taken : goal.returns-in_err-fields-clause-taken
returns-in_err-fields-clause-taken g c = handed_on _ _ _ _ c.from_residual.ensures.1 (fields_cut (input_reading g.R.Read.reading c.args.input.now) (input_reading g.R.Read.reading c.pull_short.new.reader) _ c.in_err-fields.ensures.taken)

pub returns-in_default-clause-taken : goal.returns-in_default-clause-taken
returns-in_default-clause-taken g c = fields_fault g.row.R-Error.Denot c.deref.result.now (input_reading g.R.Read.reading c.args.input.now) (input_reading g.R.Read.reading c.pull_short.new.reader) (ap length c.deref.ensures.0 ∙ c.in_ok-fields.ensures.taken.0)
    (subst (λ f. Takes (input_reading g.R.Read.reading c.args.input.now) f (input_reading g.R.Read.reading c.pull_short.new.reader)) (sym c.deref.ensures.0) c.in_ok-fields.ensures.taken.1) c.in_default.ensures

pub returns-in_err-skip-clause-taken : goal.returns-in_err-skip-clause-taken
returns-in_err-skip-clause-taken g c = handed_on _ _ _ _ c.from_residual-in_err-skip.ensures.1
    (skip_cut c.deref.result.now (input_reading g.R.Read.reading c.args.input.now) (input_reading g.R.Read.reading c.pull_short.new.reader) (input_reading g.R.Read.reading c.skip.new.input) _ c.in-Some.span.begin (ap length c.deref.ensures.0 ∙ c.in_ok-fields.ensures.taken.0) c.in-Some.ensures.0 c.in-Some.ensures.1
    (subst (λ f. Takes (input_reading g.R.Read.reading c.args.input.now) f (input_reading g.R.Read.reading c.pull_short.new.reader)) (sym c.deref.ensures.0) c.in_ok-fields.ensures.taken.1) c.in_err-skip.ensures.taken)

pub returns-clause-taken : goal.returns-clause-taken
returns-clause-taken g c = span_taken c.deref.result.now c.in_ok-skip.ensures.taken.0 (input_reading g.R.Read.reading c.args.input.now) (input_reading g.R.Read.reading c.pull_short.new.reader) (input_reading g.R.Read.reading c.skip.new.input) c.in-Some.span.begin c.in-Some.span.length (ap length c.deref.ensures.0 ∙ c.in_ok-fields.ensures.taken.0) c.in-Some.ensures.0 c.in-Some.ensures.1 c.in-Some.ensures.2
    (subst (λ f. Takes (input_reading g.R.Read.reading c.args.input.now) f (input_reading g.R.Read.reading c.pull_short.new.reader)) (sym c.deref.ensures.0) c.in_ok-fields.ensures.taken.1) c.pull_short.ensures.at_most c.in_ok-skip.ensures.taken.1 c.in_ok-skip.ensures.taken.2 c.in_ok-skip.ensures.at_most

pub returns-clause-looked : goal.returns-clause-looked
returns-clause-looked g c = some_both c.in_ok-fields.ensures.looked c.in_ok-skip.ensures.looked
