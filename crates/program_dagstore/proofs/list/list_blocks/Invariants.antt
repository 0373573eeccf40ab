use Rattle.std.proofs.Common.{List}
use Rattle.ipld_tree.specs.Cid.{CidParts}
use Rattle.program_dagstore.specs.Names.{IsListedLine}
use Rattle.program_dagstore.proofs.Telling.{SaidSoFar}
use Rattle.program_dagstore.proofs.list.list_blocks.Given as goal

abbrev pub invariant-loop-count : goal.invariant-loop-count
invariant-loop-count g l = (names : List CidParts) × SaidSoFar g.S.Store IsListedLine l.fn.store (g.W.Write.contents l.fn.output) names l.last l.well l.store (g.W.Write.contents l.output)
