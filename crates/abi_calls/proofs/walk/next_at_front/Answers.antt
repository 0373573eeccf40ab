use Rattle.std.proofs.Common.{rules, w32, inl, subst, sym, ℤ}
use Rattle.std.proofs.lemmas.Int.{to_z-of_z}
use Rattle.abi_calls.specs.Walks.{IsFrontStep}
use Rattle.abi_calls.proofs.walk.next_at_front.Goals as goal

pub returns-in-Ok-Some : goal.returns-in-Ok-Some
returns-in-Ok-Some c = subst (λ (z : ℤ). IsFrontStep c.args.is_last c.args.walk.now c.args.bytes.now c.args.places.now c.next_in_span.new.walk c.next_in_span.new.places z) (sym (to_z-of_z w32 c.next_in_span.result (search rules))) c.next_in_span.ensures

pub returns-in-Ok-None : goal.returns-in-Ok-None
returns-in-Ok-None c = subst (λ (z : ℤ). IsFrontStep c.args.is_last c.args.walk.now c.args.bytes.now c.args.places.now c.next_header.new.walk c.next_header.new.places z) (sym (to_z-of_z w32 c.next_header.result (search rules))) (inl (rw c.in-Ok-None.field-0-is at c.in-Ok-None.ensures, c.next_header.ensures))
