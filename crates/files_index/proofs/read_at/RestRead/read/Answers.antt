use Rattle.std.proofs.Common.{rules}
use Rattle.files_index.proofs.Going.{went_on}
use Rattle.files_index.proofs.read_at.RestRead.read.Goals as goal

pub returns-in-Some-clause-bytes : goal.returns-in-Some-clause-bytes
returns-in-Some-clause-bytes g c = went_on (g.S.ReadAt.bytes c.args.self.now.source.now) c.args.self.now.place c.in_ok-count.count c.in-Some.place c.read_at.new.buf (search rules) c.in_ok-count.ensures.bytes
