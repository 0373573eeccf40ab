use Rattle.std.proofs.Common.{rules, ◌-◌, length}
use Rattle.files_index.proofs.Pulling.{pulled_more}
use Rattle.files_index.proofs.entries.pull.Goals as goal

pub loop-filled-preserved : goal.loop-filled-preserved
loop-filled-preserved g c = (search rules, pulled_more (g.R.Read.remaining c.args.input.now) (g.R.Read.remaining c.loop-filled.input) (g.R.Read.remaining c.read.new.self) c.loop-filled.filled c.in-Ok.count (length c.loop-filled.room - c.loop-filled.filled) c.loop-filled.room c.read.new.buf c.loop-filled.invariant.0 c.in-Ok.ensures.bound.0 c.in-Ok.ensures.bytes.0 c.loop-filled.invariant.1)
