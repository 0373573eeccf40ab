use Rattle.std.proofs.Common.{false, inl, inr, refl, sym, subst, map}
use Rattle.dagcbor_heads.specs.Inputs.{input_reading}
use Rattle.program_sections.specs.Merging.{IsMergedFront, IsMergedOf, TellsNoneBegins}
use Rattle.program_sections.specs.MergeSteps.{BeginsAll}
use Rattle.program_sections.proofs.Sending.{none_said, both_sent}
use Rattle.program_sections.proofs.merge.write_merged.Goals as goal

pub returns-in_err-begun : goal.returns-in_err-begun
returns-in_err-begun g c = λ bs l. none_said (IsMergedFront c.args.given.now bs) (IsMergedOf c.args.given.now bs) _ _ c.from_residual.result c.in_err-begun.field-0.0 (inl refl) c.from_residual.ensures.1

pub returns-in-Err : goal.returns-in-Err
returns-in-Err g c = λ bs l.
    let begins = subst (BeginsAll g.R.Read.reading (map (input_reading g.R.Read.reading) c.args.inputs.items)) c.in-Err.is c.in_ok-begun.ensures in
    let tells = subst (TellsNoneBegins bs) (sym c.deref.ensures.value) (begins bs l) in
    both_sent (IsMergedFront c.args.given.now bs) (IsMergedOf c.args.given.now bs) c.new.result.items c.deref.result.now false _ _ c.say_both.result _ _ c.new.ensures.items (inl refl) (inr (refl, inl (tells, refl))) c.say_both.ensures
