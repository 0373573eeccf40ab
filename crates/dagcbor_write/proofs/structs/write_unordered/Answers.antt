use Rattle.std.proofs.Common.{rules, ap, List}
use Rattle.dagcbor_write.specs.Trees.{Pair}
use Rattle.dagcbor_write.specs.Lending.{map_lent}
use Rattle.dagcbor_write.proofs.Fields.{exit_row, row_cause, none_lacks, given_row, end_map, all_given}
use Rattle.dagcbor_write.proofs.Messages.{fields_message, keys_message, lacks_of_wants}
use Rattle.dagcbor_write.proofs.structs.write_unordered.Goals as goal

pub returns-in_err-push_fields-clause-written : goal.returns-in_err-push_fields-clause-written
returns-in_err-push_fields-clause-written g c =
    exit_row _ _ _ _ _ (row_cause _ _ _ _ c.in_err-push_fields.ensures.entries) c.from_residual.ensures.1 (search rules)

pub returns-in_err-push_fields-clause-message : goal.returns-in_err-push_fields-clause-message
returns-in_err-push_fields-clause-message g c =
    fields_message _ _ _ (row_cause _ _ _ _ c.in_err-push_fields.ensures.entries) c.from_residual.ensures.1 (search rules)

pub returns : goal.returns
returns g c =
    let pairs : List Pair = g.F.FieldRow.pairs c.args.fields.now in
    let w = given_row pairs _ _ (ap (λ state. state.entries) c.serialize_map-map.ensures.nothing) c.in_ok-push_fields.ensures.entries in
    record {
      written = end_map _ w (search rules) _ _ _ _ _ c.end.ensures.written (search rules) (search rules);
      well_formed = c.end.ensures.well_formed _ (all_given w);
      message = keys_message pairs _ {u = c.end.new.self.0} {v = (map_lent c.push_fields.new.map).now} (none_lacks pairs _ (all_given w)) (c.end.ensures.message _ (all_given w)) (search rules) (search rules);
      memory = lacks_of_wants _ _ _ c.end.ensures.memory;
    }
