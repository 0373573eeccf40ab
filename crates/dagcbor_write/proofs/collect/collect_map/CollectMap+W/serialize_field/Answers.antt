use Rattle.std.proofs.Common.{Some, arith}
use Rattle.ipld_tree.specs.Tree.{text}
use Rattle.dagcbor_write.specs.Maps.{JoinsEntry}
use Rattle.dagcbor_write.proofs.Fields.{only_value}
use Rattle.dagcbor_write.proofs.collect.collect_map.CollectMap+W.serialize_field.Goals as goal

pub returns-clause-entry : goal.returns-clause-entry
returns-clause-entry g c = record {
  no_key = c.serialize_entry.ensures.entry.no_key;
  joins = only_value {T = Unit {0}} {E = g.row.W-Error.Denot} (λ u. JoinsEntry (Some (text c.args.name.now)) (g.V.Serialize.tree c.args.value.now) c.args.self.now.state.entries c.serialize_entry.new.self.state.entries)
      c.args.name.now (g.V.Serialize.tree c.args.value.now) c.serialize_entry.result (omega arith) c.serialize_entry.ensures.entry.joins;
  kept = c.serialize_entry.ensures.entry.kept;
}
