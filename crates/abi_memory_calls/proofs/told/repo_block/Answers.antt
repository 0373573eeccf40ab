use Rattle.std.proofs.Common.{map, sym, ap, ◌∙◌, subst}
use Rattle.dagcbor_write.specs.Answers.{AreSpellingOf}
use Rattle.atproto_mst.specs.Commits.{unsigned_tree}
use Rattle.atproto_mst.specs.Entries.{entries}
use Rattle.abi_memory_calls.specs.Blocks.{entry_of_row}
use Rattle.abi_memory_calls.proofs.Written.{block_of}
use Rattle.abi_memory_calls.proofs.told.repo_block.Goals as goal

pub returns-in-Ok : goal.returns-in-Ok
returns-in-Ok c = block_of c.args.repo.now.commit c.args.repo.now.records.items c.deref-2.result.now c.deref-3.result.now c.in-Ok.block.items
    (subst (AreSpellingOf (unsigned_tree c.args.repo.now.commit)) (sym c.deref-2.ensures.value) c.in_ok-signed.ensures)
    (ap (λ rs. map entry_of_row rs) c.deref-3.ensures.value ∙ (c.in_ok-rows.ensures ∙ ap entries c.deref.ensures.value))
    c.in-Ok.ensures.value
