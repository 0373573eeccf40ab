use Rattle.std.proofs.Common.{arith}
use Rattle.dagcbor_heads.proofs.Arguments.{cut, one_byte_read, no_byte_read}
use Rattle.dagcbor_heads.proofs.Looking.{some_both, some_then, some_taken, once_left, nothing_looked}
use Rattle.dagcbor_heads.proofs.pull.pull_argument.Goals as goal

pub loop-i-init : goal.loop-i-init
loop-i-init g c = record { read = no_byte_read _; looked = nothing_looked _; at_most = omega arith }

pub returns-in-Ok-None-clause-taken : goal.returns-in-Ok-None-clause-taken
returns-in-Ok-None-clause-taken g c =
    let told = c.end.ensures in
    rw told.1 (cut g.row.R-Error.Denot told.0 c.loop-i-test.true c.loop-i.invariant.read (rw c.in-Ok-None.field-0-is at c.in-Ok-None.ensures.taken))

pub returns-in-Ok-None-clause-looked : goal.returns-in-Ok-None-clause-looked
returns-in-Ok-None-clause-looked g c = some_then c.loop-i.invariant.looked (once_left (rw c.in-Ok-None.field-0-is at c.in-Ok-None.ensures.looked))

pub loop-i-preserved : goal.loop-i-preserved
loop-i-preserved g c = record {
  read = rw c.from.ensures (one_byte_read (rw c.in-Ok-Some.field-0-is at c.in-Ok-Some.ensures.is_byte) c.loop-i.invariant.read (rw c.in-Ok-Some.field-0-is at c.in-Ok-Some.ensures.taken));
  looked = some_both c.loop-i.invariant.looked (some_taken (rw c.in-Ok-Some.field-0-is at c.in-Ok-Some.ensures.looked));
  at_most = omega (arith, c.loop-i.invariant.at_most, c.in-Ok-Some.ensures.at_most);
}
