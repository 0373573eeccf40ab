use Rattle.std.proofs.lemmas.List.Sorted.{IsPermutation-refl, IsPermutation-trans}
use Rattle.types_serde.proofs.entries.move_each_back.Goals as goal

pub loop-i-init : goal.loop-i-init
loop-i-init c = IsPermutation-refl c.args.spans.now

pub loop-i-preserved : goal.loop-i-preserved
loop-i-preserved c = IsPermutation-trans _ _ _ c.loop-i.invariant c.move_back.ensures
