use Rattle.std.proofs.Common.{drop}
use Rattle.abi_calls.proofs.Spelling.{Putting}
use Rattle.abi_calls.proofs.spell.fill.Given as goal

abbrev pub invariant-loop-token : goal.invariant-loop-token
invariant-loop-token l = Putting l.bytes l.tape (drop l.token-index l.tape) l.fn.out l.out l.at
