use Rattle.std.proofs.Common.{◌≡◌, ◌+◌, length}
use Rattle.std.specs.Io.KnownBytes.{Consumes}
use Rattle.program_serve.proofs.heard.read_block.Given as goal

abbrev pub invariant-loop-left : goal.invariant-loop-left
invariant-loop-left g l = record {
  count : length l.block.items + l.left ≡ l.fn.length;
  taken : Consumes (g.R.Read.remaining l.fn.requests) (g.R.Read.remaining l.requests) l.block.items;
}

abbrev pub decreases-loop-left : goal.decreases-loop-left
decreases-loop-left g l = l.left
