use Rattle.std.proofs.Common.{rules, inl, inr}
use Rattle.abi_memory_calls.proofs.frame.parts_code.Goals as goal

pub returns-in-Ok : goal.returns-in-Ok
returns-in-Ok c = inl (c.in-Ok.frame, c.in-Ok.ensures, search rules)

pub returns-in-Err : goal.returns-in-Err
returns-in-Err c = inr (c.in-Err.error, c.in-Err.ensures, search rules)
