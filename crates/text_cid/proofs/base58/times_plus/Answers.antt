use Rattle.std.proofs.Common.{refl, arith}
use Rattle.text_cid.proofs.Numbers58.{one_multiplied, all_multiplied, two_carries, one_carry, no_carry}
use Rattle.text_cid.proofs.base58.times_plus.Goals as goal

pub loop-digit-preserved : goal.loop-digit-preserved
loop-digit-preserved c = rw c.push.ensures.items (one_multiplied c.args.base c.args.times c.args.plus c.args.digits.now c.loop-digit.out.items c.loop-digit.carry c.loop-digit.digit-index c.from.result _ c.requires.can c.loop-digit.invariant c.loop-digit-test.true c.from.ensures refl)

pub returns-then-carry-base-clause-product : goal.returns-then-carry-base-clause-product
returns-then-carry-base-clause-product c = λ n are. record {
  is = rw (c.push-then-carry-base.ensures.items, c.push-then-carry-gt0.ensures.items) (two_carries (all_multiplied c.args.base c.args.times c.args.plus c.args.digits.now c.loop-digit.out.items c.loop-digit.carry c.loop-digit.digit-index n c.loop-digit.invariant c.loop-digit-test.false are) c.requires.can.much c.if-carry-base.true (omega arith));
}

pub returns-else-carry-base-clause-product : goal.returns-else-carry-base-clause-product
returns-else-carry-base-clause-product c = λ n are. record {
  is = rw c.push-then-carry-gt0.ensures.items (one_carry (all_multiplied c.args.base c.args.times c.args.plus c.args.digits.now c.loop-digit.out.items c.loop-digit.carry c.loop-digit.digit-index n c.loop-digit.invariant c.loop-digit-test.false are) (omega arith) c.if-carry-gt0.true c.if-carry-base.false);
}

pub returns-else-carry-gt0-clause-product : goal.returns-else-carry-gt0-clause-product
returns-else-carry-gt0-clause-product c = λ n are. record {
  is = no_carry (all_multiplied c.args.base c.args.times c.args.plus c.args.digits.now c.loop-digit.out.items c.loop-digit.carry c.loop-digit.digit-index n c.loop-digit.invariant c.loop-digit-test.false are) (omega arith) (omega arith);
}
