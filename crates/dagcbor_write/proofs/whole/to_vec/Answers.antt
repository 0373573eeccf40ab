use Rattle.std.proofs.Common.{◌∙◌}
use Rattle.dagcbor_write.proofs.Spelling.{spelling_answered, refusal_answered}
use Rattle.dagcbor_write.proofs.whole.to_vec.Goals as goal

pub returns-in_err-serialize-clause-refused : goal.returns-in_err-serialize-clause-refused
returns-in_err-serialize-clause-refused g c = refusal_answered _ _ _ _ _ c.from_residual.ensures.1 c.in_err-serialize.ensures.written

pub returns-clause-value : goal.returns-clause-value
returns-clause-value g c =
    spelling_answered _ _ c.into_inner-2.result c.in_ok-serialize.ensures.well_formed (c.into_inner-2.ensures ∙ c.into_inner.ensures)
    (rw (c.new-ser.ensures ∙ c.new.ensures ∙ c.in-Ok.ensures.items) at c.in_ok-serialize.ensures.written)
