use Rattle.std.proofs.Common.{◌≡◌, ◌≤◌, Bool, true, false}
use Rattle.dagcbor_bench.proofs.calls.repeated.Given as goal

-- what the calls so far answered
abbrev pub invariant-loop : goal.invariant-loop
invariant-loop g l = record {
  most : l.count ≤ l.counter;
  all : ((b : Bool) → g.F.Fn.post l.fn.call tt b → b ≡ true) → l.count ≡ l.counter;
  none : ((b : Bool) → g.F.Fn.post l.fn.call tt b → b ≡ false) → l.count ≡ 0;
}
