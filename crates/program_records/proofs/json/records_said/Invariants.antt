use Rattle.std.proofs.Common.{drop}
use Rattle.ipld_links.specs.Reaching.{stored_in}
use Rattle.atproto_mst.specs.Entries.{entries}
use Rattle.program_records.proofs.AsJson.{SoFar}
use Rattle.program_records.proofs.json.records_said.Given as goal

abbrev pub invariant-loop-found : goal.invariant-loop-found
invariant-loop-found l = SoFar (stored_in l.blocks) (entries l.records) (entries (drop l.found-index l.records)) l.all.0.1 l.all.0.0.items l.all.1.items
