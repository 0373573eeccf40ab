use Rattle.std.proofs.Common.{◌<◌, ◌^◌, length, IfSome}
use Rattle.program_index.proofs.Finding.{NotPassed}
use Rattle.program_index.proofs.find.block_in.Given as goal

abbrev pub invariant-loop-number : goal.invariant-loop-number
invariant-loop-number g l = IfSome (g.S.ReadAt.bytes l.source) (λ b. length b < 2 ^ 64 → NotPassed l.name l.layout l.bucket l.first l.number b)
