use Rattle.std.proofs.Common.{◌*◌}
use Rattle.dagcbor_heads.specs.Looking.{LooksAtSome, LooksAtMost}
use Rattle.dagcbor_heads.proofs.Arguments.{ReadArgument}
use Rattle.dagcbor_heads.proofs.pull.pull_argument.Given as goal

abbrev pub invariant-loop-i : goal.invariant-loop-i
invariant-loop-i g l = record {
  read : ReadArgument l._i l.argument (g.R.Read.reading l.initial.reader) (g.R.Read.reading l.reader);
  looked : LooksAtSome 2 (g.R.Read.reading l.initial.reader) (g.R.Read.reading l.reader);
  at_most : LooksAtMost (2 * l._i) (g.R.Read.reading l.initial.reader) (g.R.Read.reading l.reader);
}
