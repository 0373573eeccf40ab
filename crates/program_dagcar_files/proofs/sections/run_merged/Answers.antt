use Rattle.std.proofs.Common.{ap}
use Rattle.program_dagcar_files.proofs.sections.run_merged.Goals as goal

pub returns : goal.returns
returns g c = λ bs l. (c.write_merged-ended.result, g.V.Write.contents c.write_merged-ended.new.errors, c.status_of.ensures.status, c.write_merged-ended.ensures bs l, λ k. ap g.V.Write.contents (c.status_of.ensures.quiet k))
