use Rattle.std.proofs.Common.{List, ℕ, Some, []}
use Rattle.dagcbor_heads.specs.Written.{Written}
use Rattle.ipld_tree.specs.Spelled.{spelled_tree}
use Rattle.dagcbor_write.proofs.collect.keyed.spell_key.Goals as goal

pub returns-in-Err-clause-taken : goal.returns-in-Err-clause-taken
returns-in-Err-clause-taken g c =
    let held : List ℕ → Written = λ bs. record { bytes = Some bs; faults = 0; through = [] } in
    c.refused_key.ensures (spelled_tree (g.K.Serialize.tree c.args.key.now)) (held c.args.keys.now)
    (held c.serialize.new.ser) c.in-Err.ensures.written
