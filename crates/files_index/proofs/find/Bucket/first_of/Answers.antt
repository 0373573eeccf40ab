use Rattle.files_index.proofs.Lookups.{narrowed}
use Rattle.files_index.proofs.find.Bucket.first_of.Goals as goal

pub returns : goal.returns
returns g c = narrowed (g.S.ReadAt.bytes c.args.source.now) c.args.self.now c.args.digest.now c.loop-low.low c.loop-low.high c.loop-low-test.false c.loop-low.invariant.0 c.loop-low.invariant.1 c.loop-low.invariant.2
