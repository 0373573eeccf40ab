use Rattle.std.proofs.Common.{ap, ◌∙◌, ◌++◌, take, length, min, arith}
use Rattle.dagcbor_heads.proofs.Taking.{fill_gathers}
use Rattle.dagcbor_heads.proofs.Looking.{gathered_looked, gathered_most}
use Rattle.dagcbor_heads.proofs.pull.copy_some.Goals as goal

pub returns-in_default : goal.returns-in_default
returns-in_default g c =
    let count = c.copy_front.ensures.count ∙ ap (λ s. min c.args.want (length s)) c.shown.ensures in
    let following = fill_gathers c.in_ok-prepare.ensures count
    (c.copy_front.ensures.grows ∙ ap (λ s. c.args.payload.now.items ++ take c.copy_front.result s) c.shown.ensures) c.advance.ensures in
    record {
      gathered = following;
      looked = gathered_looked c.in_ok-prepare.ensures count (omega arith) c.advance.ensures following;
      at_most = gathered_most c.in_ok-prepare.ensures count c.advance.ensures;
    }
