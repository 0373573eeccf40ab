use Rattle.std.proofs.Common.{drop, ◌≤◌, ◌^◌, ◌*◌}
use Rattle.abi_calls.proofs.Spelling.{Counted}
use Rattle.abi_calls.proofs.told.told_length.Given as goal

abbrev pub invariant-loop-token : goal.invariant-loop-token
invariant-loop-token l = record {
  fits : l.count ≤ 2 ^ 64 * l.token-index;
  counted : Counted l.bytes l.tape (drop l.token-index l.tape) l.count;
}
