use Rattle.dagcbor_read.specs.Structs.{texts}
use Rattle.dagcbor_read.proofs.Joins.{own_refused_in_row, others_in_row}
use Rattle.dagcbor_read.proofs.access.group.Tuple2Fields.read_named.Goals as goal

pub returns-then-is_some-clause-entry : goal.returns-then-is_some-clause-entry
returns-then-is_some-clause-entry g c =
    let own = g.A.FieldGroup.own_state c.args.places.now.0 in
    let rest = g.L.Fields.state c.args.places.now.1 in
    let names = texts c.args.names.now in
    own_refused_in_row (g.A.FieldGroup.held g.L.Fields.State) (g.A.FieldGroup.own_shape names) g.L.Fields.shape (g.A.FieldGroup.following names) (g.A.FieldGroup.shape_before g.L.Fields.State g.L.Fields.shape names) own rest
    (g.A.FieldGroup.joins g.L.Fields.State g.L.Fields.shape names own rest) _ _ _ _ c.read_own_named.new.refusal _ _ c.if-is_some.ensures c.if-read_own_named.ensures.entry

pub returns-clause-entry : goal.returns-clause-entry
returns-clause-entry g c =
    let own = g.A.FieldGroup.own_state c.args.places.now.0 in
    let rest = g.L.Fields.state c.args.places.now.1 in
    let names = texts c.args.names.now in
    others_in_row (g.A.FieldGroup.held g.L.Fields.State) (g.A.FieldGroup.own_shape names) g.L.Fields.shape (g.A.FieldGroup.following names) (g.A.FieldGroup.shape_before g.L.Fields.State g.L.Fields.shape names) own rest
    (g.A.FieldGroup.joins g.L.Fields.State g.L.Fields.shape names own rest) _ _ _ _ _ _ c.read_own_named.new.refusal _ c.read_named.new.refusal _ _ _ c.if-is_some.ensures c.skip_names.ensures c.if-read_own_named.ensures.entry c.read_named.ensures.entry
