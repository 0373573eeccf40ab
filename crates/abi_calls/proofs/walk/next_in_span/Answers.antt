use Rattle.std.proofs.Common.{rules, w32, subst, sym, ℤ}
use Rattle.std.proofs.lemmas.Int.{to_z-of_z}
use Rattle.abi_calls.specs.Walks.{IsFrontStep}
use Rattle.abi_calls.proofs.Walking.{rest_of, span_next}
use Rattle.abi_calls.proofs.walk.next_in_span.Goals as goal

pub returns : goal.returns
returns c =
    let step = span_next c.args.is_last c.args.walk.now c.next_header.new.walk c.args.bytes.now _ c.args.places.now c.next_header.new.places c.next_header.result c.args.span.begin c.args.span.length c.in-Some.end c.min-passed.result c.requires.whole c.requires.begin c.requires.long c.in-Some.ensures c.min-passed.ensures (rest_of c.min-passed.result c.args.bytes.now) c.next_header.ensures in
    subst (λ (z : ℤ). IsFrontStep c.args.is_last c.args.walk.now c.args.bytes.now c.args.places.now c.next_header.new.walk c.next_header.new.places z) (sym (to_z-of_z w32 c.next_header.result (search rules))) step
