-- Items that are skipped, as values of a type.
use Rattle.std.proofs.Common.{◌+◌, refl, arith}
use Rattle.dagcbor_heads.specs.Reading.{Reading}
use Rattle.dagcbor_heads.specs.Refusals.{RefusesOrLacksMemoryUnlent}
use Rattle.dagcbor_core.specs.declared.error.DecodeError.{DecodeError}
use Rattle.dagcbor_heads.proofs.Taking.{stays}
use Rattle.dagcbor_heads.proofs.Refusing.{passed_on}
use Rattle.dagcbor_items.specs.ReadCauses.{ItemCause}
use Rattle.dagcbor_items.specs.Shapes.{ignored_item}
use Rattle.dagcbor_items.specs.TypedReads.{HasFront}
use Rattle.dagcbor_items.specs.Untyped.{HasItem}
use Rattle.dagcbor_items.proofs.ItemRefusals.{at_steps}

pub ignored_refused : {E : Type 0} (old new : Reading) (e : DecodeError E) → RefusesOrLacksMemoryUnlent (HasItem 0 old) (ItemCause (old.steps + 0)) old e new → RefusesOrLacksMemoryUnlent (HasFront ignored_item old) (ItemCause old.steps) old e new
ignored_refused {E} old new e r = passed_on (ItemCause (old.steps + 0)) (ItemCause old.steps) old old new e (stays old)
    (λ h. record { bytes = h.bytes; tree = h.tree; rest = h.rest; left = h.left; front = h.front; accepted = refl; within = omega (arith, h.within) }) (λ x. x) (λ x. x)
    (λ b l. (b, l, at_steps {E = E} e b _ _ (omega arith))) r
