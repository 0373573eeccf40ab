use Rattle.std.proofs.Common.{rules}
use Rattle.program_serve.proofs.Hearing.{read_to}
use Rattle.program_serve.proofs.heard.read_line.Goals as goal

pub returns-in-Ok-clause-read : goal.returns-in-Ok-clause-read
returns-in-Ok-clause-read g c =
    read_to (g.R.Read.remaining c.args.requests.now) (g.R.Read.remaining c.read_until.new.self) c.clear.new.self.items c.read_until.new.buf.items c.in-Ok.field-0 c.clear.ensures.items (search rules) c.read_until.ensures.stops c.in-Ok.ensures.bytes c.in-Ok.ensures.rest c.in-Ok.ensures.end c.read_until.ensures.none_lost
