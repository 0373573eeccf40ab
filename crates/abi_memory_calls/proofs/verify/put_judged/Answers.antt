use Rattle.std.proofs.Common.{rules, inl, inr, sym, subst}
use Rattle.dagcbor_write.specs.Answers.{AreSpellingOf}
use Rattle.abi_memory_calls.specs.EventBlocks.{verified_tree}
use Rattle.abi_memory_calls.proofs.verify.put_judged.Goals as goal

pub returns-in-Ok-verified_block : goal.returns-in-Ok-verified_block
returns-in-Ok-verified_block c =
    let told = verified_tree c.args.frame.now.event.commit c.in-Ok.verified in
    let spelled = subst (AreSpellingOf told) (sym c.deref.ensures.value) c.in-Ok-verified_block.ensures in
    inl (c.in-Ok.verified, c.deref.result.now, c.in-Ok.ensures.verified, spelled, search rules)

pub returns : goal.returns
returns c = inr (inl (c.in-Err.error, c.in-Err.ensures.refused, search rules))
