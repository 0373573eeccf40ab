use Rattle.dagcbor_items.specs.Walks.{forms}
use Rattle.program_sections.specs.MergeSteps.{merging_work}
use Rattle.program_sections.proofs.Merging.{file_merged, file_through}
use Rattle.program_sections.proofs.merge.merge_file.Goals as goal

pub returns : goal.returns
returns g c = λ b file roots first done is sent.
    let work = merging_work g.W.Write.contents in
    let old = c.args.merging.now in
    let new = c.take_sections-ended.new.sink in
    let ends = c.take_sections-ended.ensures is.0 (forms file) is.1 b is.2 in (
      file_through _ work (λ s x r y q. q) c.args.file.number b file roots first done old new sent c.take_sections-ended.result ends,
      file_merged _ work (λ s x r y q. q) c.args.file.number b file roots first done old new sent c.take_sections-ended.result c.told_of.result ends c.told_of.ensures,
    )
