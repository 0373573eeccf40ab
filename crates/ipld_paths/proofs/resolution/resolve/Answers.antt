use Rattle.std.proofs.Common.{refl, sym, arith, rules}
use Rattle.ipld_links.specs.Reaching.{stored_in}
use Rattle.ipld_paths.proofs.Ways.{led_on, led_to_end, led_endless}
use Rattle.ipld_paths.proofs.resolution.resolve.Goals as goal

pub returns-in-Ok-Ends : goal.returns-in-Ok-Ends
returns-in-Ok-Ends c =
    let step = (rw c.in-Ok-Ends.field-0-is at c.in-Ok-Ends.ensures) (stored_in c.args.blocks.now) (sym c.stored_bytes.ensures) in
    led_to_end (stored_in c.args.blocks.now) c.args.root.now c.loop-count.block _ _ _ _ c.loop-count.invariant.1 (refl, refl, step.0) step.1

pub loop-count-preserved : goal.loop-count-preserved
loop-count-preserved c = (
  search rules,
  led_on (stored_in c.args.blocks.now) c.args.root.now c.loop-count.block c.in-Ok-GoesOn.next.block _ _ _ _ c.loop-count.invariant.1 ((rw c.in-Ok-GoesOn.field-0-is at c.in-Ok-GoesOn.ensures) (stored_in c.args.blocks.now) (sym c.stored_bytes.ensures)),
)

pub returns : goal.returns
returns c = led_endless (stored_in c.args.blocks.now) c.args.root.now c.loop-count.block _ _ _ _ c.loop-count.invariant.1 (refl, refl, tt) (λ n e. omega (arith, e))

pub returns-in-Err : goal.returns-in-Err
returns-in-Err c = (c.loop-count.block, c.in-Err.ensures (stored_in c.args.blocks.now) (sym c.stored_bytes.ensures))
