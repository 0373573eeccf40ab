use Rattle.program_sections.specs.Kept.{keeps}
use Rattle.program_sections.proofs.Filtering.{kept_next}
use Rattle.program_sections.proofs.kept.kept_roots.Goals as goal

pub loop-root-preserved : goal.loop-root-preserved
loop-root-preserved c = kept_next (keeps c.args.kept.now) c.args.roots.now c.loop-root.root-index c.root-item.result c.keeps.result c.loop-root.left.items _ c.loop-root-test.true c.root-item.is c.loop-root.invariant c.keeps.ensures c.in_ok-push_if.ensures
