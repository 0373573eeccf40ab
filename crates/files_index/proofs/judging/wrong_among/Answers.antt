use Rattle.std.proofs.Common.{not}
use Rattle.files_index.specs.Judging.{is_entry_of}
use Rattle.files_index.proofs.Judged.{filter_pushed}
use Rattle.files_index.proofs.judging.wrong_among.Goals as goal

pub loop-entry-preserved : goal.loop-entry-preserved
loop-entry-preserved c = filter_pushed (λ e. not (is_entry_of c.args.right.now e)) c.args.entries.now c.loop-entry.wrong.items _ c.loop-entry.entry-index c.entry-item.result c.loop-entry-test.true c.entry-item.is c.loop-entry.invariant c.in_ok-push_wrong.ensures
