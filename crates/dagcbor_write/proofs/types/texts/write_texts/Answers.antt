use Rattle.dagcbor_write.specs.Texts.{map_pairs, text_pairs}
use Rattle.dagcbor_write.proofs.Texts.{Writes_moved, good_moved}
use Rattle.dagcbor_write.proofs.types.texts.write_texts.Goals as goal

pub returns-clause-written : goal.returns-clause-written
returns-clause-written g c =
    let tree = g.V.Serialize.tree in
    Writes_moved (map_pairs tree c.args.entries.now.entries) (text_pairs tree c.in-Ok.row.items) _ _ _
    (c.in-Ok.ensures tree) (rw c.deref-2.ensures.value at c.write_row.ensures.written)

pub returns-clause-well_formed : goal.returns-clause-well_formed
returns-clause-well_formed g c =
    let tree = g.V.Serialize.tree in
    good_moved (map_pairs tree c.args.entries.now.entries) (text_pairs tree c.in-Ok.row.items) _
    (c.in-Ok.ensures tree) (rw c.deref-2.ensures.value at c.write_row.ensures.well_formed)
