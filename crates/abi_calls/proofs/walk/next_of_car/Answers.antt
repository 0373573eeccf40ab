use Rattle.std.proofs.Common.{rules, w32, inr, subst, sym, ℤ}
use Rattle.std.proofs.lemmas.Int.{to_z-of_z}
use Rattle.abi_calls.specs.Walks.{IsNextAnswer}
use Rattle.abi_calls.proofs.walk.next_of_car.Goals as goal

pub returns-else-walk-ne0-2 : goal.returns-else-walk-ne0-2
returns-else-walk-ne0-2 c = subst (λ (z : ℤ). IsNextAnswer c.args.how c.args.walk.now c.args.bytes.now c.args.places.now c.next_at_front.new.walk c.next_at_front.new.places z) (sym (to_z-of_z w32 c.next_at_front.result (search rules))) (inr (inr (c.if-walk-ne0.false, c.if-walk-ne0-2.false, c.next_at_front.ensures)))
