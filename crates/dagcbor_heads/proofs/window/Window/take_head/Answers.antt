use Rattle.std.proofs.Common.{rules, subst}
use Rattle.dagcbor_heads.specs.IoReading.{BeginsWithHeadOf}
use Rattle.dagcbor_heads.proofs.window.Window.take_head.Goals as goal

pub returns : goal.returns
returns c = record {
  count = c.in_ok-major.count;
  found = subst (λ b. BeginsWithHeadOf b c.in_ok-major.major c.in_ok-major.argument c.in_ok-major.first c.in_ok-major.count) c.at_hand.ensures.bytes c.in_ok-major.ensures;
  is = search rules;
}
