use Rattle.std.proofs.Common.{[], ◌∷◌, drop}
use Rattle.ipld_tree.specs.Cid.{cid_bytes}
use Rattle.ipld_links.specs.Reaching.{stored_in}
use Rattle.files_car.specs.Reached.{sections_at}
use Rattle.files_car.proofs.Writing.{WrittenTo}
use Rattle.files_car.proofs.tree.push_tree.Given as goal

abbrev pub invariant-loop-name : goal.invariant-loop-name
invariant-loop-name g l = WrittenTo (cid_bytes l.root ∷ []) (sections_at (stored_in l.blocks) l.names) (sections_at (stored_in l.blocks) (drop l.name-index l.names)) (g.W.Write.written l.fn.writer) (g.W.Write.written l.writer)
