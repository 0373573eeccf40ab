use Rattle.std.proofs.Common.{ap}
use Rattle.types_serde.proofs.Closing.{link_closes}
use Rattle.types_serde.proofs.Opening.{ok_then}
use Rattle.types_serde.proofs.sink.Sink.end_link.Goals as goal

pub returns : goal.returns
returns c = ok_then c.args.self.now c.land.new.self c.land.result (λ lands. link_closes c.args.self.now c.land.new.self c.in_ok-link.link c.leave.new.self.top c.leave.new.self.below.items c.leave.new.self.spans.items c.leave.new.self.bytes.items c.in_ok-link.ensures.frame.0 c.in_ok-link.ensures.frame.1 (ap (λ v. v.items) c.land.ensures.same.0) (ap (λ v. v.items) c.land.ensures.same.1) lands
    (ap (λ v. v.items) c.leave.ensures.same.1) (ap (λ v. v.items) c.leave.ensures.same.0) c.requires) c.land.ensures.landed
