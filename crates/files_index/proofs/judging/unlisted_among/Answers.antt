use Rattle.files_index.specs.Judging.{is_unlisted}
use Rattle.files_index.proofs.Judged.{filter_pushed}
use Rattle.files_index.proofs.judging.unlisted_among.Goals as goal

pub loop-section-preserved : goal.loop-section-preserved
loop-section-preserved c = filter_pushed (is_unlisted c.args.names.now) c.args.sections.now c.loop-section.out.items _ c.loop-section.section-index c.section-item.result c.loop-section-test.true c.section-item.is c.loop-section.invariant c.in_ok-push_unlisted.ensures
