use Rattle.std.proofs.Common.{rules, sym, subst, arith}
use Rattle.ipld_paths.specs.Paths.{segments}
use Rattle.ipld_links.specs.Reaching.{stored_in}
use Rattle.ipld_paths.specs.Resolving.{EndsAs}
use Rattle.program_index.proofs.Growing.{grown, over_nowhere, over_more, over_on}
use Rattle.program_index.proofs.Looking.{none_led, looked_up, no_index}
use Rattle.program_index.proofs.Walking.{way_left, way_held}
use Rattle.program_index.proofs.way.gather_way.Goals as goal

pub loop-count-init : goal.loop-count-init
loop-count-init g c = (search rules, none_led (g.S.ReadAt.bytes c.args.source.now) c.new-blocks.result c.new-blocks.ensures.empty, over_nowhere (stored_in c.new-blocks.result) c.args.root.now (segments c.args.path.now))

pub returns-then-not-branch : goal.returns-then-not-branch
returns-then-not-branch g c = no_index (g.S.ReadAt.bytes c.args.source.now) c.loop-count.name _ _ c.in_ok-look_up.field-0 c.if-not-branch.true c.in_ok-look_up.ensures c.loop-count.invariant.1

pub returns-in-NotHeld : goal.returns-in-NotHeld
returns-in-NotHeld g c =
    let more = looked_up (g.S.ReadAt.bytes c.args.source.now) c.loop-count.name (stored_in c.loop-count.blocks) (stored_in c.look_up.new.blocks) c.in_ok-look_up.field-0 c.if-not-branch.false c.in_ok-look_up.ensures c.loop-count.invariant.1 in
    let step = (rw c.in-Ok-Ends.field-0-is at c.in-Ok-Ends.ensures) (stored_in c.look_up.new.blocks) (sym c.stored_bytes.ensures) in
    way_left (g.S.ReadAt.bytes c.args.source.now) (stored_in c.loop-count.blocks) (stored_in c.look_up.new.blocks) c.args.root.now c.loop-count.name (segments c.args.path.now) c.loop-count.left c.loop-count._count more c.loop-count.invariant.2
    (subst (EndsAs (stored_in c.look_up.new.blocks) c.loop-count.name (segments c.loop-count.left.now)) c.in-NotHeld.is step.0)

pub returns-in_default : goal.returns-in_default
returns-in_default g c =
    let more = looked_up (g.S.ReadAt.bytes c.args.source.now) c.loop-count.name (stored_in c.loop-count.blocks) (stored_in c.look_up.new.blocks) c.in_ok-look_up.field-0 c.if-not-branch.false c.in_ok-look_up.ensures c.loop-count.invariant.1 in
    let step = (rw c.in-Ok-Ends.field-0-is at c.in-Ok-Ends.ensures) (stored_in c.look_up.new.blocks) (sym c.stored_bytes.ensures) in
    way_held (g.S.ReadAt.bytes c.args.source.now) (stored_in c.loop-count.blocks) (stored_in c.look_up.new.blocks) c.args.root.now c.loop-count.name (segments c.args.path.now) c.loop-count.left c.loop-count._count more c.loop-count.invariant.2
    c.in-Ok-Ends.end (omega arith) step.0 step.1 c.in_default.not-NotHeld

pub loop-count-preserved : goal.loop-count-preserved
loop-count-preserved g c =
    let more = looked_up (g.S.ReadAt.bytes c.args.source.now) c.loop-count.name (stored_in c.loop-count.blocks) (stored_in c.look_up.new.blocks) c.in_ok-look_up.field-0 c.if-not-branch.false c.in_ok-look_up.ensures c.loop-count.invariant.1 in
    let step = (rw c.in-Ok-GoesOn.field-0-is at c.in-Ok-GoesOn.ensures) (stored_in c.look_up.new.blocks) (sym c.stored_bytes.ensures) in (
      search rules,
      more.led,
      over_on (stored_in c.look_up.new.blocks) c.args.root.now c.loop-count.name c.in-Ok-GoesOn.next.block (segments c.args.path.now) (segments c.loop-count.left.now) _ c.loop-count._count (over_more (stored_in c.loop-count.blocks) (stored_in c.look_up.new.blocks) c.args.root.now c.loop-count.name (segments c.args.path.now) (segments c.loop-count.left.now) c.loop-count._count (grown (g.S.ReadAt.bytes c.args.source.now) c.loop-count.name (stored_in c.loop-count.blocks) (stored_in c.look_up.new.blocks) more) c.loop-count.invariant.2) step,
    )
