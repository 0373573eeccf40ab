use Rattle.std.proofs.Common.{inl, inr, refl}
use Rattle.std.proofs.lemmas.Result.{err_from_is_err_and}
use Rattle.atproto_events.specs.declared.frame_error.FrameError.TheVariants.{NoEnd}
use Rattle.atproto_events.proofs.Framing.{no_frame_for}
use Rattle.atproto_events.proofs.frame.read_frame.Goals as goal

pub returns-in_default-clause-none : goal.returns-in_default-clause-none
returns-in_default-clause-none c = no_frame_for c.args.bytes.now NoEnd (inl (refl, c.in_default.ensures))

pub returns-in_err-frame-clause-none : goal.returns-in_err-frame-clause-none
returns-in_err-frame-clause-none c =
    let p = err_from_is_err_and c.from_residual.result c.from_residual.ensures.1 in
    rw (p.1, p.2) (no_frame_for c.args.bytes.now c.in_err-frame.field-0.0 (inr (c.in-Some.parts.header.now, c.in-Some.parts.body.now, c.in-Some.parts.rest.now, c.in-Some.ensures, c.in_err-frame.ensures)))
