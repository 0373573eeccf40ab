use Rattle.std.proofs.Common.{ap, ◌∙◌}
use Rattle.program_inspect.specs.Rows.{counts_in}
use Rattle.program_inspect.proofs.Counting.{counted}
use Rattle.program_inspect.proofs.counts.Counts.count.Goals as goal

pub returns : goal.returns
returns c = counted c.args.self.now _ (c.args.cid.now, c.args.bytes) c.add.result c.in_ok-self.ensures c.least_with-self.ensures c.max-self.ensures
    (c.in_ok-count.ensures ∙ ap (λ n. counts_in c.args.self.now.codecs.rows.entries n c.args.bytes) c.codec.ensures)
    (c.in_ok-count-2.ensures ∙ ap (λ n. counts_in c.args.self.now.hashes.rows.entries n c.args.bytes) c.hash_code.ensures) c.add.ensures
