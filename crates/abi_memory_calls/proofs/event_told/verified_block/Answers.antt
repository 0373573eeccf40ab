use Rattle.std.proofs.Common.{map, ap, ◌∙◌}
use Rattle.atproto_mst.specs.Changes.{changes}
use Rattle.abi_memory_calls.specs.EventBlocks.{change_of_row}
use Rattle.abi_memory_calls.proofs.EventsWritten.{block_of}
use Rattle.abi_memory_calls.proofs.event_told.verified_block.Goals as goal

pub returns-in-Ok : goal.returns-in-Ok
returns-in-Ok c = block_of c.args.name.now c.args.verified.now c.deref-2.result.now c.deref-3.result.now c.in-Ok.block.items
    c.deref-2.ensures.value
    (ap (λ rs. map change_of_row rs) c.deref-3.ensures.value ∙ (c.in_ok-rows.ensures ∙ ap changes c.deref.ensures.value))
    c.in-Ok.ensures.value
