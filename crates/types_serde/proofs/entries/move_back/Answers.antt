use Rattle.std.proofs.lemmas.List.Sorted.{IsPermutation-refl, IsPermutation-trans}
use Rattle.types_serde.proofs.entries.move_back.Goals as goal

pub loop-step-init : goal.loop-step-init
loop-step-init c = IsPermutation-refl c.args.spans.now

pub loop-step-preserved : goal.loop-step-preserved
loop-step-preserved c = IsPermutation-trans _ _ _ c.loop-step.invariant c.swap.ensures.permutation
