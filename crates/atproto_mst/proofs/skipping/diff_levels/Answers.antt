use Rattle.std.proofs.Common.{suc, ◌-◌, add-one, map, sym, ap, ◌∙◌, subst, arith}
use Rattle.ipld_links.specs.Reaching.{stored_in}
use Rattle.atproto_mst.specs.Entries.{entries}
use Rattle.atproto_mst.specs.Walks.{most_layers}
use Rattle.atproto_mst.specs.Changes.{changes}
use Rattle.atproto_mst.specs.Levels.{an_entry, level_items}
use Rattle.atproto_mst.proofs.Descending.{steps_of}
use Rattle.atproto_mst.proofs.Leading.{BothLed, DiffStops, both_below, both_stop, first_stops, second_stops, later_stops}
use Rattle.atproto_mst.proofs.Refusals.{handed_on_err}
use Rattle.atproto_mst.proofs.Sharing.{led_begins, telling_begins, telling_goes_on, telling_ends}
use Rattle.atproto_mst.proofs.skipping.diff_levels.Goals as goal

pub loop-round-init : goal.loop-round-init
loop-round-init c = record {
  led = led_begins (stored_in c.args.blocks.now) c.args.old.now c.args.new.now (level_items c.whole_level-before.result) (level_items c.whole_level-after.result) c.whole_level-before.ensures c.whole_level-after.ensures;
  tells = telling_begins (stored_in c.args.blocks.now) c.args.old.now c.args.new.now (level_items c.whole_level-before.result) (level_items c.whole_level-after.result) c.whole_level-before.ensures c.whole_level-after.ensures;
}

pub returns-in_err-old_top-clause-refused : goal.returns-in_err-old_top-clause-refused
returns-in_err-old_top-clause-refused c =
    handed_on_err (DiffStops (stored_in c.args.blocks.now) c.args.old.now c.args.new.now) c.from_residual.result c.in_err-old_top.field-0.0 c.from_residual.ensures.1
    (first_stops (stored_in c.args.blocks.now) c.args.old.now c.args.new.now c.in_err-old_top.field-0.0 c.in_err-old_top.ensures)

pub returns-in_err-new_top-clause-refused : goal.returns-in_err-new_top-clause-refused
returns-in_err-new_top-clause-refused c =
    handed_on_err (DiffStops (stored_in c.args.blocks.now) c.args.old.now c.args.new.now) c.from_residual-in_err-new_top.result c.in_err-new_top.field-0.0 c.from_residual-in_err-new_top.ensures.1
    (second_stops (stored_in c.args.blocks.now) c.args.old.now c.args.new.now c.in_err-new_top.field-0.0 c.in_ok-old_top.ensures c.in_err-new_top.ensures)

pub returns-in_err-before-clause-refused : goal.returns-in_err-before-clause-refused
returns-in_err-before-clause-refused c =
    handed_on_err (DiffStops (stored_in c.args.blocks.now) c.args.old.now c.args.new.now) c.from_residual-in_err-before.result c.in_err-before.field-0.0 c.from_residual-in_err-before.ensures.1
    (later_stops (stored_in c.args.blocks.now) c.args.old.now c.args.new.now c.in_err-before.field-0.0 c.in_ok-old_top.ensures c.in_err-before.ensures.refused)

pub returns-in_err-after-clause-refused : goal.returns-in_err-after-clause-refused
returns-in_err-after-clause-refused c =
    handed_on_err (DiffStops (stored_in c.args.blocks.now) c.args.old.now c.args.new.now) c.from_residual-in_err-after.result c.in_err-after.field-0.0 c.from_residual-in_err-after.ensures.1
    (later_stops (stored_in c.args.blocks.now) c.args.old.now c.args.new.now c.in_err-after.field-0.0 c.in_ok-old_top.ensures c.in_err-after.ensures.refused)

pub returns-in_err-below-clause-refused : goal.returns-in_err-below-clause-refused
returns-in_err-below-clause-refused c =
    handed_on_err (DiffStops (stored_in c.args.blocks.now) c.args.old.now c.args.new.now) c.from_residual-in_err-below.result c.in_err-below.field-0.0 c.from_residual-in_err-below.ensures.1
    (both_stop (most_layers - suc c.loop-round.round) (suc c.loop-round.round) (stored_in c.args.blocks.now) c.args.old.now c.args.new.now (level_items c.loop-round.before) (level_items c.loop-round.after) c.in_ok-old_top.ensures
    (omega (arith, c.loop-round-test.true)) c.loop-round.invariant.led c.in_err-below.field-0.0 c.in_err-below.ensures)

pub loop-round-preserved : goal.loop-round-preserved
loop-round-preserved c =
    let below = level_items c.in_ok-below.below.0 in
    let beside = level_items c.in_ok-below.below.1 in
    let steps = steps_of (stored_in c.args.blocks.now) (level_items c.loop-round.before) (level_items c.loop-round.after) below beside c.in_ok-below.ensures in
    record {
      led = subst (λ m. BothLed (suc m) (stored_in c.args.blocks.now) c.args.old.now c.args.new.now below beside) (sym (add-one c.loop-round.round))
          (both_below (suc c.loop-round.round) (stored_in c.args.blocks.now) c.args.old.now c.args.new.now (level_items c.loop-round.before) (level_items c.loop-round.after) below beside
          steps c.loop-round.invariant.led);
      tells = telling_goes_on (stored_in c.args.blocks.now) c.args.old.now c.args.new.now (level_items c.loop-round.before) (level_items c.loop-round.after) below beside
          steps c.loop-round.invariant.tells;
    }

pub returns-clause-read : goal.returns-clause-read
returns-clause-read c =
    telling_ends (stored_in c.args.blocks.now) c.args.old.now c.args.new.now (level_items c.loop-round.before) (level_items c.loop-round.after) (entries c.deref.result.now) (entries c.deref-2.result.now)
    (changes c.in_ok-found.found.items) c.loop-round.invariant.tells (c.in_ok-before.ensures.all ∙ ap (λ l. map an_entry (entries l)) (sym c.deref.ensures.value))
    (c.in_ok-after.ensures.all ∙ ap (λ l. map an_entry (entries l)) (sym c.deref-2.ensures.value)) c.in_ok-found.ensures.found
