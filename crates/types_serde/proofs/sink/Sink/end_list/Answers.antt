use Rattle.std.proofs.Common.{ap, rules}
use Rattle.types_serde.proofs.Closing.{list_closes}
use Rattle.types_serde.proofs.Opening.{ok_then}
use Rattle.types_serde.proofs.sink.Sink.end_list.Goals as goal

pub returns : goal.returns
returns c = ok_then c.args.self.now c.land.new.self c.land.result (λ lands. list_closes c.args.self.now c.land.new.self c.in_ok-list.list c.leave.new.self.top c.leave.new.self.below.items c.leave.new.self.spans.items c.set_head.new.out.items c.in_ok-list.ensures.frame.0 c.in_ok-list.ensures.frame.1 (ap (λ v. v.items) c.land.ensures.same.0) (ap (λ v. v.items) c.land.ensures.same.1) lands
    c.leave.new.self.bytes.items (ap (λ v. v.items) c.leave.ensures.same.1) (ap (λ v. v.items) c.leave.ensures.same.0) c.requires (search rules) c.in_ok-set_head.ensures.replaced) c.land.ensures.landed
