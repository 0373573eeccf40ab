use Rattle.std.proofs.Common.{List}
use Rattle.ipld_tree.specs.Cid.{CidParts}
use Rattle.sqlite_trees.specs.View.{IsClean}
use Rattle.program_dagstore.specs.Checks.{IsCheckedLine}
use Rattle.program_dagstore.proofs.Telling.{SaidSoFar}
use Rattle.program_dagstore.proofs.Missing.{MissingOf}
use Rattle.program_dagstore.proofs.check.check_names.Given as goal

abbrev pub invariant-loop-count : goal.invariant-loop-count
invariant-loop-count g l = (names : List CidParts) × SaidSoFar g.S.Store IsCheckedLine l.fn.store (g.W.Write.contents l.fn.output) names l.last l.well l.store (g.W.Write.contents l.output)
    × (IsClean (g.S.Store.view l.store) → MissingOf (g.S.Store.view l.fn.store) names l.missing)
