use Rattle.std.proofs.Common.{Err}
use Rattle.std.proofs.KnownBytes.{Appends-nil}
use Rattle.dagcbor_heads.specs.Inputs.{input_reading}
use Rattle.program_parts.proofs.Saying.{line_whole}
use Rattle.program_dagcar.specs.Speeches.{beside}
use Rattle.program_dagcar.proofs.Saying.{roots_broken, broke}
use Rattle.program_dagcar.proofs.walk.say_header.Goals as goal

pub returns-in_err-write_all-clause-said : goal.returns-in_err-write_all-clause-said
returns-in_err-write_all-clause-said g c = λ start roots h k is.
    roots_broken g.T.Teller.speech start (input_reading g.R.Read.reading c.args.input.now) c.args.extent roots c.args.of_roots.now _ _ _ c.in_err-write_all.field-0.0 (Err c.in_err-write_all.field-0.0) h is c.from_residual.ensures.1 c.in_err-write_all.ensures.fault c.in_err-write_all.ensures.written

pub returns-in_err-write_all-clause-told : goal.returns-in_err-write_all-clause-told
returns-in_err-write_all-clause-told g c = λ start roots h k is. broke (beside g.T.Teller.tells) start _ c.in_err-write_all.field-0.0 c.from_residual.result c.from_residual.ensures.1

pub returns-clause-said : goal.returns-clause-said
returns-clause-said g c = λ start roots h k is. c.say_sections.ensures.said start roots _ h k (line_whole _ _ c.args.of_roots.now _ c.in_ok-write_all.ensures.written is)

pub returns-clause-told : goal.returns-clause-told
returns-clause-told g c = λ start roots h k is. c.say_sections.ensures.told start roots _ h k (Appends-nil (g.V.Write.contents c.args.errors.now))
