use Rattle.std.proofs.Common.{ap, rules}
use Rattle.types_serde.proofs.Opening.{lands_ok}
use Rattle.types_serde.proofs.sink.Sink.put.Goals as goal

pub returns-clause-put : goal.returns-clause-put
returns-clause-put c = lands_ok c.args.self.now c.land.new.self c.land.result _ c.append.new.out.items c.len-from.result (search rules) c.in_ok-append.ensures.appended (ap (λ v. v.items) c.land.ensures.same.0) (ap (λ v. v.items) c.land.ensures.same.1) c.land.ensures.landed
