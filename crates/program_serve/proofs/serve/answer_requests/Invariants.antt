use Rattle.std.proofs.Common.{List}
use Rattle.std.specs.Io.KnownBytes.{Appends}
use Rattle.program_serve.specs.Serving.{Exchange, AreExchanged, answers}
use Rattle.program_serve.proofs.serve.answer_requests.Given as goal

abbrev pub invariant-loop-count : goal.invariant-loop-count
invariant-loop-count g l = (xs : List Exchange)
    × AreExchanged g.S.Store xs (g.R.Read.remaining l.fn.requests) l.fn.store (g.R.Read.remaining l.requests) l.store
    × Appends (g.W.Write.contents l.fn.answers) (g.W.Write.contents l.answers) (answers xs)
