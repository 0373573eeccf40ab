use Rattle.std.proofs.Common.{refl}
use Rattle.dagcbor_write.proofs.Texts.{next_listed}
use Rattle.dagcbor_write.proofs.types.texts.list_entries.Goals as goal

pub loop-key-preserved : goal.loop-key-preserved
loop-key-preserved g c =
    next_listed (c.in-Some.key.now, c.in-Some.value.now) _ _ _ _ _ _ c.in-Some.ensures.steps
    c.as_str.ensures.value refl c.in_ok-push.ensures.items c.loop-key.invariant
