use Rattle.abi_calls.proofs.Standing.{tagged_judged}
use Rattle.abi_calls.proofs.tape.split_tagged.Goals as goal

pub returns-clause-stands : goal.returns-clause-stands
returns-clause-stands c = tagged_judged (λ p. p.0) (λ p. p.1.now) _ c.args.whole _ c.split_link.result c.if-number-ne42.false c.split_link.ensures.stands
