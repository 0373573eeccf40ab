use Rattle.std.proofs.Common.{◌∷◌, [], drop, take, length}
use Rattle.std.specs.Fmt.{◌++?◌}
use Rattle.dagcbor_heads.proofs.Writing.{Written-but}
use Rattle.ipld_tree.specs.Spelled.{spelled_head}
use Rattle.dagcbor_write.specs.Each.{AreTrees}
use Rattle.dagcbor_write.specs.Keyed.{spelled_keyed, value_trees}
use Rattle.dagcbor_write.proofs.collect.keyed.Keyed.write.Given as goal

abbrev pub invariant-loop-i : goal.invariant-loop-i
invariant-loop-i g l = record {
  written : Written-but (spelled_head 5 (length l.self) ++? spelled_keyed g.V.Serialize.tree l.self) (spelled_keyed g.V.Serialize.tree (drop l.i l.self) ∷ []) (g.W.Write.written l.fn.ser) (g.W.Write.written l.ser);
  well_formed : AreTrees (value_trees g.V.Serialize.tree (take l.i l.self));
}
