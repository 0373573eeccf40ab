use Rattle.std.proofs.Common.{ap}
use Rattle.types_serde.proofs.SourceReads.{pull_refused}
use Rattle.types_serde.proofs.source.block_from_reader_once.Goals as goal

pub returns-in-Some-clause-refused : goal.returns-in-Some-clause-refused
returns-in-Some-clause-refused g c =
    pull_refused (g.R.Read.remaining c.args.reader.now) _ _ c.pull_block-result.result (ap (λ r. r.left) c.new.ensures) (ap (λ r. r.steps) c.new.ensures) c.pull_block-result.ensures.block

pub returns-in_default-clause-refused : goal.returns-in_default-clause-refused
returns-in_default-clause-refused g c =
    pull_refused (g.R.Read.remaining c.args.reader.now) _ _ c.pull_block-result.result (ap (λ r. r.left) c.new.ensures) (ap (λ r. r.steps) c.new.ensures) c.pull_block-result.ensures.block
