use Rattle.std.proofs.Common.{ap}
use Rattle.dagcbor_read.specs.Collections.{value_of}
use Rattle.dagcbor_read.specs.Deserializers.{de_state}
use Rattle.dagcbor_read.specs.Structs.{texts}
use Rattle.dagcbor_read.proofs.Joins.{field_own_read, field_passed_on}
use Rattle.dagcbor_read.proofs.access.group.Tuple2Fields.read_field.Goals as goal

pub returns-in-Some-clause-value : goal.returns-in-Some-clause-value
returns-in-Some-clause-value g c =
    let own = g.A.FieldGroup.own_state c.args.places.now.0 in
    let rest = g.L.Fields.state c.args.places.now.1 in
    let names = texts c.args.names.now in
    field_own_read (g.A.FieldGroup.held g.L.Fields.State) own rest (λ ns. value_of (g.L.Fields.shape ns) rest c.args.key.now) (g.A.FieldGroup.following names) _ _ _ _ _ _
    (g.A.FieldGroup.joins g.L.Fields.State g.L.Fields.shape names own rest c.args.key.now) c.in-Some.ensures.value

pub returns-in-None-clause-value : goal.returns-in-None-clause-value
returns-in-None-clause-value g c =
    let own = g.A.FieldGroup.own_state c.args.places.now.0 in
    let rest = g.L.Fields.state c.args.places.now.1 in
    let names = texts c.args.names.now in
    field_passed_on (g.A.FieldGroup.held g.L.Fields.State) own rest (λ ns. value_of (g.L.Fields.shape ns) rest c.args.key.now) (g.A.FieldGroup.following names) _ _ _ _ _ _ _ _ _
    (g.A.FieldGroup.joins g.L.Fields.State g.L.Fields.shape names own rest c.args.key.now) c.in-None.ensures.value.0 (ap g.A.FieldGroup.own_state c.in-None.ensures.value.1) (ap (de_state g.R.Read.reading) c.in-None.ensures.value.2) c.skip_names.ensures c.read_field.ensures.value
