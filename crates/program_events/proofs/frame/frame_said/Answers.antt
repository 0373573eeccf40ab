use Rattle.std.proofs.Common.{inl}
use Rattle.program_events.proofs.Saying.{if_ok}
use Rattle.program_events.proofs.frame.frame_said.Goals as goal

pub returns-in-Ok : goal.returns-in-Ok
returns-in-Ok c = if_ok c.read_said.result c.read_said.ensures (λ p h. inl (c.in-Ok.frame, c.in-Ok.ensures, h))
