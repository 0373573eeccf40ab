use Rattle.std.proofs.Common.{◌++◌, ap, sym, ◌∙◌, arith}
use Rattle.files_index.specs.Judging.{fallen}
use Rattle.files_index.proofs.Judged.{unordered_more}
use Rattle.files_index.proofs.judging.unordered.Goals as goal

pub loop-number-preserved : goal.loop-number-preserved
loop-number-preserved c = (omega arith, c.in_ok-push_fallen.ensures ∙ ap (λ l. l ++ fallen c.index-entries-number.result c.index-entries-number-in-loop-number.result) c.loop-number.invariant.1 ∙ sym (unordered_more c.args.entries.now c.loop-number.number c.index-entries-number.result c.index-entries-number-in-loop-number.result c.loop-number.invariant.0 (omega (arith, c.loop-number-test.true)) c.index-entries-number.is c.index-entries-number-in-loop-number.is))
