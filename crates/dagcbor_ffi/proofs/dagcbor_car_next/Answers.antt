use Rattle.std.proofs.Common.{rules, w32, subst, sym, ℤ}
use Rattle.std.proofs.lemmas.Int.{to_z-of_z}
use Rattle.abi_calls.specs.Walks.{IsNextAnswer}
use Rattle.dagcbor_ffi.proofs.dagcbor_car_next.Goals as goal

pub returns : goal.returns
returns c = subst (λ (z : ℤ). IsNextAnswer c.args.how c.args.walk.now c.args.bytes.now c.args.places.now c.next_of_car.new.walk c.next_of_car.new.places z) (sym (to_z-of_z w32 c.next_of_car.result (search rules))) c.next_of_car.ensures
