use Rattle.std.proofs.Common.{◌∙◌}
use Rattle.files_index.proofs.Judged.{searched_entry}
use Rattle.files_index.proofs.judging.is_entry_of.Goals as goal

pub returns : goal.returns
returns c = c.is_ok.ensures.value ∙ searched_entry c.args.sorted.now c.args.entry.now c.binary_search.result c.requires c.binary_search.ensures.bound c.binary_search.ensures.position
