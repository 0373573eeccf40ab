use Rattle.std.proofs.Common.{[], Some, subst}
use Rattle.serde.specs.Event.{Log}
use Rattle.types_serde.proofs.Logs.{blocks_ok}
use Rattle.types_serde.proofs.whole.to_vec.Goals as goal

pub returns : goal.returns
returns g c =
    let last : Log = c.serialize.new.out.log.events in
    let P : Log → Type 0 = λ l. g.T.Described.writes c.args.value.now l last in
    blocks_ok last (λ l. g.T.Described.writes c.args.value.now (Some []) l) c.into_bytes.result (subst P c.new-writer.ensures c.in_ok-serialize.ensures) c.into_bytes.ensures
