use Rattle.std.proofs.Common.{inl, inr}
use Rattle.atproto_events.proofs.Framing.{kind_read}
use Rattle.atproto_events.proofs.frame.read_kind.Goals as goal

pub returns-in-Ok : goal.returns-in-Ok
returns-in-Ok c = kind_read _ _ _ c.kind_of.result c.in-Ok.ensures.value c.kind_of.ensures

pub returns-in_default : goal.returns-in_default
returns-in_default c = elim c.in-Err.ensures.refused [
  | inl memory ↦ absurd (c.in_default.not-OutOfMemory memory)
  | inr none ↦ (none, c.in_default.not-OutOfMemory)
]
