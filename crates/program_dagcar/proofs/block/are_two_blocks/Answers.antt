use Rattle.std.proofs.Common.{sym, subst, MatchBool}
use Rattle.program_dagcar.specs.Answers.{AreTwoBlocks}
use Rattle.program_records.proofs.Spelled.{rest_all}
use Rattle.program_dagcar.proofs.TwoBlocks.{trailing_judged}
use Rattle.program_dagcar.proofs.block.are_two_blocks.Goals as goal

pub returns-in-TrailingData : goal.returns-in-TrailingData
returns-in-TrailingData c = subst (λ t. MatchBool t (AreTwoBlocks c.args.bytes.now) (AreTwoBlocks c.args.bytes.now → ⊥)) (sym c.is_ok.ensures.value)
    (trailing_judged c.args.bytes.now _ c.in-Err.refused c.judge_slice-in-TrailingData.result c.in-Err.ensures.decoded c.in-TrailingData.is (rest_all c.in-Err.refused.place c.args.bytes.now) c.judge_slice-in-TrailingData.ensures.decoded c.judge_slice-in-TrailingData.ensures.kind)
