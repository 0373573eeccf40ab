use Rattle.ipld_tree.specs.Spelled.{spelled_tree}
use Rattle.dagcbor_write.proofs.collect.keyed.write_value.Goals as goal

pub returns-in-Err-clause-written : goal.returns-in-Err-clause-written
returns-in-Err-clause-written g c =
    let old = g.W.Write.written c.args.ser.now in
    let new = g.W.Write.written c.serialize.new.ser in
    let text = spelled_tree (g.V.Serialize.tree c.args.value.now) in
    c.refused_value.ensures.stops text old new c.in-Err.ensures.written

pub returns-in-Err-clause-memory : goal.returns-in-Err-clause-memory
returns-in-Err-clause-memory g c = c.refused_value.ensures.memory _ c.in-Err.ensures.memory
