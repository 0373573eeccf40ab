use Rattle.dagcbor_decode.proofs.FrontKinds.{front_kind, no_front_kind}
use Rattle.dagcbor_decode.proofs.kind.kind_of_front.Goals as goal

pub returns-in-Some : goal.returns-in-Some
returns-in-Some c = front_kind c.args.bytes.now _ _ _ c.in-Some.ensures.cases.0 c.kind_at.ensures

pub returns-in-None : goal.returns-in-None
returns-in-None c = no_front_kind c.args.bytes.now _ c.in-None.ensures.cases
