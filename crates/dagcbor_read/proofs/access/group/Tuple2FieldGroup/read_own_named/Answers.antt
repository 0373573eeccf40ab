use Rattle.dagcbor_read.specs.Structs.{texts}
use Rattle.dagcbor_read.proofs.Joins.{first_taken, first_refused, second_named}
use Rattle.dagcbor_read.proofs.access.group.Tuple2FieldGroup.read_own_named.Goals as goal

pub returns-then-read_own_named-clause-entry : goal.returns-then-read_own_named-clause-entry
returns-then-read_own_named-clause-entry g c =
    first_taken _ g.B.FieldGroup.own_shape (g.A.FieldGroup.following (texts c.args.names.now)) _ _ _ _ _ _ c.read_own_named.new.refusal _ c.if-read_own_named.ensures.entry

pub returns-then-is_some-clause-entry : goal.returns-then-is_some-clause-entry
returns-then-is_some-clause-entry g c =
    first_refused _ g.B.FieldGroup.own_shape (g.A.FieldGroup.following (texts c.args.names.now)) _ _ _ _ _ _ c.read_own_named.new.refusal _ _ c.if-is_some.ensures c.if-read_own_named.ensures.entry

pub returns-clause-entry : goal.returns-clause-entry
returns-clause-entry g c =
    second_named _ g.B.FieldGroup.own_shape _ _ _ _ _ _ _ _ _ c.read_own_named.new.refusal _ c.read_own_named-2.new.refusal _ _ _ c.if-is_some.ensures c.skip_names.ensures c.if-read_own_named.ensures.entry c.read_own_named-2.ensures.entry
