use Rattle.std.proofs.Common.{arith}
use Rattle.std.proofs.lemmas.List.{length-map}
use Rattle.dagcbor_write.specs.Spans.{entry_at}
use Rattle.types_serde.proofs.Before.{not_before, differ}
use Rattle.types_serde.proofs.entries.are_in_order.Goals as goal

pub returns : goal.returns
returns c = λ t w.
    let count = length-map c.args.spans.now (entry_at c.args.bytes.now) in (
      λ k d low h. not_before _ _ _ _ (c.loop-i.invariant k d (omega (arith, h, count, c.loop-i-test.false))),
      λ k d h. differ _ _ (c.loop-i.invariant k d (omega (arith, h, count, c.loop-i-test.false))),
    )
