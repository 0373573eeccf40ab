use Rattle.std.proofs.Common.{arith, rules, ◌-◌, length}
use Rattle.files_index.proofs.Filling.{filled_more, not_filled}
use Rattle.files_index.proofs.number.fill.Goals as goal

pub loop-filled-preserved : goal.loop-filled-preserved
loop-filled-preserved g c = (search rules, filled_more (g.S.ReadAt.bytes c.args.source.now) c.args.place c.loop-filled.filled c.saturating_add-next.result c.in_ok-count.count (length c.loop-filled.room - c.loop-filled.filled) c.loop-filled.room c.read_at.new.buf (omega arith) c.in_ok-count.ensures.bound.0 (search rules) (search rules) c.in_ok-count.ensures.fits c.loop-filled.invariant.1 c.in_ok-count.ensures.bytes)

pub returns-then-count-eq0 : goal.returns-then-count-eq0
returns-then-count-eq0 g c = not_filled (g.S.ReadAt.bytes c.args.source.now) c.args.place c.loop-filled.filled c.saturating_add-next.result c.in_ok-count.count c.loop-filled.room c.read_at.new.buf _ (omega arith) (search rules) (search rules) (search rules) c.if-count-eq0.true c.in_ok-count.ensures.bytes
