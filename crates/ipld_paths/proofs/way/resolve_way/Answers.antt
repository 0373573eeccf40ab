use Rattle.std.proofs.Common.{refl, sym, rules}
use Rattle.ipld_links.specs.Reaching.{stored_in}
use Rattle.ipld_paths.proofs.Ways.{led_on, led_to_end}
use Rattle.ipld_paths.proofs.Gathering.{went_on, went_to_end}
use Rattle.ipld_paths.proofs.Deciding.{ends_no_further}
use Rattle.ipld_paths.proofs.way.resolve_way.Goals as goal

pub returns-in-Ok-Ends-clause-resolved : goal.returns-in-Ok-Ends-clause-resolved
returns-in-Ok-Ends-clause-resolved c =
    let step = (rw c.in-Ok-Ends.field-0-is at c.in-Ok-Ends.ensures) (stored_in c.args.blocks.now) (sym c.stored_bytes.ensures) in
    led_to_end (stored_in c.args.blocks.now) c.args.root.now c.loop-count.block _ _ _ _ c.loop-count.invariant.1 (refl, refl, step.0) step.1

pub returns-in-Ok-Ends-clause-names : goal.returns-in-Ok-Ends-clause-names
returns-in-Ok-Ends-clause-names c =
    let step = (rw c.in-Ok-Ends.field-0-is at c.in-Ok-Ends.ensures) (stored_in c.args.blocks.now) (sym c.stored_bytes.ensures) in
    went_to_end (stored_in c.args.blocks.now) c.args.root.now c.loop-count.block _ _ _ _ c.loop-count.invariant.2 c.in_ok-push.ensures.items (ends_no_further (stored_in c.args.blocks.now) c.loop-count.block _ c.in-Ok-Ends.end step.0 step.1)

pub loop-count-preserved : goal.loop-count-preserved
loop-count-preserved c =
    let step = (rw c.in-Ok-GoesOn.field-0-is at c.in-Ok-GoesOn.ensures) (stored_in c.args.blocks.now) (sym c.stored_bytes.ensures) in (
      search rules,
      led_on (stored_in c.args.blocks.now) c.args.root.now c.loop-count.block c.in-Ok-GoesOn.next.block _ _ _ _ c.loop-count.invariant.1 step,
      went_on (stored_in c.args.blocks.now) c.args.root.now c.loop-count.block c.in-Ok-GoesOn.next.block _ _ _ _ _ c.loop-count.invariant.2 c.in_ok-push.ensures.items step,
    )
