use Rattle.std.proofs.Common.{ap, ◌∙◌, ◌++◌, take, length, min, arith}
use Rattle.dagcbor_heads.proofs.Taking.{fill_gathers}
use Rattle.dagcbor_heads.proofs.Looking.{gathered_looked, gathered_most}
use Rattle.dagcbor_heads.proofs.pull.gather_some.Goals as goal

pub returns-in-Ok-append_front : goal.returns-in-Ok-append_front
returns-in-Ok-append_front g c =
    let count = c.in-Ok-append_front.ensures.count ∙ ap (λ s. min c.args.want (length s)) c.shown.ensures in
    let following = fill_gathers c.in-Ok.ensures count
    (c.in-Ok-append_front.ensures.grows ∙ ap (λ s. c.args.payload.now.items ++ take c.in-Ok-append_front.count s) c.shown.ensures) c.advance.ensures in
    record {
      gathered = following;
      stays = tt;
      variant = tt;
      looked = gathered_looked c.in-Ok.ensures count (omega arith) c.advance.ensures following;
      at_most = gathered_most c.in-Ok.ensures count c.advance.ensures;
    }
