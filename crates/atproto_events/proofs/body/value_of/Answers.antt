use Rattle.std.proofs.Common.{inl, inr}
use Rattle.atproto_events.proofs.body.value_of.Goals as goal

pub returns-in_default : goal.returns-in_default
returns-in_default g c = elim c.in-Err.ensures.refused [
  | inl memory ↦ absurd (c.in_default.not-OutOfMemory memory)
  | inr none ↦ (none, c.in_default.not-OutOfMemory)
]
