use Rattle.dagcbor_decode.proofs.Named.{named, label_short}
use Rattle.dagcbor_decode.proofs.cause.Label.name.Goals as goal

pub returns : goal.returns
returns c = named c.new.result _ _ c.new.ensures c.text.ensures (label_short c.args.self)
