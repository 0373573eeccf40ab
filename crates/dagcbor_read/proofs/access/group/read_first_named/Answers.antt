use Rattle.std.proofs.Common.{ap, option_map}
use Rattle.dagcbor_read.specs.Accessors.{accessor_state}
use Rattle.dagcbor_read.specs.Deserializers.{de_state}
use Rattle.dagcbor_read.specs.Structs.{texts}
use Rattle.dagcbor_read.proofs.Joins.{name_read}
use Rattle.dagcbor_read.proofs.access.group.read_first_named.Goals as goal

pub returns-clause-entry : goal.returns-clause-entry
returns-clause-entry g c =
    let took = c.if-not-take_name.ensures in
    rw (ap texts c.in-Some.ensures.cases.0) (name_read _ (texts c.in-Some.field-0-1.now) g.T.Shown.shape (option_map g.T.Shown.meaning c.args.own.now)
    (accessor_state c.args.entries.now) (accessor_state c.take_name.new.self) (accessor_state c.read_named_value.new.entries) (de_state g.R.Read.reading c.args.de.now) (de_state g.R.Read.reading c.take_name.new.de) (de_state g.R.Read.reading c.read_named_value.new.de)
    c.read_named_value.result c.read_named_value.new.refusal (option_map g.T.Shown.meaning c.read_named_value.new.place) took.0 took.1 c.read_named_value.ensures.value)
