use Rattle.std.proofs.Common.{Option, drop}
use Rattle.ipld_tree.specs.Tree.{Tree}
use Rattle.dagcbor_write.specs.Rows.{KeysRise}
use Rattle.dagcbor_write.specs.Texts.{text_pairs}
use Rattle.dagcbor_write.proofs.types.texts.keys_rise.Given as goal

abbrev pub invariant-loop-entry : goal.invariant-loop-entry
invariant-loop-entry g l = (tree : g.row.V.Denot → Option Tree) → KeysRise l.last (text_pairs tree (drop l.entry-index l.others)) → KeysRise l.initial.last (text_pairs tree l.others)
