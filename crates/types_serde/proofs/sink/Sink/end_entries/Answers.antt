use Rattle.std.proofs.Common.{ap, rules}
use Rattle.types_serde.proofs.Closing.{map_closes}
use Rattle.types_serde.proofs.Opening.{ok_then}
use Rattle.types_serde.proofs.sink.Sink.end_entries.Goals as goal

pub returns : goal.returns
returns c = ok_then c.args.self.now c.land.new.self c.land.result (λ lands. map_closes c.args.self.now c.land.new.self c.in_ok-map.map c.put_entries.new.self.top c.put_entries.new.self.below.items c.put_entries.new.self.spans.items c.set_head.new.out.items c.in_ok-map.ensures.frame.0 (search rules) (ap (λ v. v.items) c.land.ensures.same.0) (ap (λ v. v.items) c.land.ensures.same.1) lands
    c.leave.new.self.bytes.items c.put_entries.new.self.bytes.items c.leave.new.self.spans.items c.in_ok-count.count (ap (λ v. v.items) c.leave.ensures.same.0) (ap (λ v. v.items) c.leave.ensures.same.1) c.requires.stage c.requires.flat (search rules) c.in_ok-count.ensures.spans c.in_ok-count.ensures.entries c.in_ok-set_head.ensures.replaced) c.land.ensures.landed
