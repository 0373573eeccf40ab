use Rattle.std.proofs.Common.{rules}
use Rattle.program_inspect.proofs.Learning.{whole_found}
use Rattle.program_inspect.proofs.inspect.find.Goals as goal

pub returns : goal.returns
returns g c = whole_found (g.R.Read.remaining c.args.input.now) (g.R.Read.remaining c.read_front.new.input) _ c.in_ok-front.front.items _ _ c.args.index c.find_whole.result c.in_ok-front.ensures c.chain-whole.ensures.bytes (search rules) (search rules) c.find_whole.ensures
