use Rattle.files_index.specs.Judging.{is_entry_of, listed_as, multihash_of}
use Rattle.files_index.proofs.Judged.{chosen_pushed}
use Rattle.files_index.proofs.judging.listed_names.Goals as goal

pub loop-section-preserved : goal.loop-section-preserved
loop-section-preserved c = chosen_pushed multihash_of (λ p. is_entry_of c.args.entries.now (listed_as c.args.format p)) c.args.sections.now c.loop-section.names.items _ c.loop-section.section-index c.section-item.result c.loop-section-test.true c.section-item.is c.loop-section.invariant c.in_ok-push_listed.ensures
