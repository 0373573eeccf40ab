use Rattle.files_index.specs.Judging.{listed_as}
use Rattle.files_index.proofs.Judged.{map_pushed}
use Rattle.files_index.proofs.judging.right_entries.Goals as goal

pub loop-section-preserved : goal.loop-section-preserved
loop-section-preserved c = map_pushed (listed_as c.args.format) c.args.sections.now c.loop-section.entries.items _ c.loop-section.section-index c.section-item.result c.listed_as.result c.loop-section-test.true c.section-item.is c.listed_as.ensures c.loop-section.invariant c.in_ok-push.ensures.items
