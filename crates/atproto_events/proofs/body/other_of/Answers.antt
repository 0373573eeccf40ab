use Rattle.atproto_events.proofs.Framing.{refused_other}
use Rattle.atproto_events.proofs.body.other_of.Goals as goal

pub returns-in-Err : goal.returns-in-Err
returns-in-Err c = refused_other _ _ c.in-Err.ensures.decoded
