use Rattle.std.proofs.Common.{◌+◌, ◌-◌, ◌/◌, sym, ◌∙◌, arith}
use Rattle.std.proofs.lemmas.List.{length-map}
use Rattle.atproto_events.specs.Pieces.{piece_of, pieces}
use Rattle.atproto_events.proofs.Places.{ends_next, not_before, still_not_before}
use Rattle.atproto_events.proofs.pieces.find_place.Goals as goal
use Rattle.atproto_events.proofs.pieces.find_place.Goals.{else-at-high-via-then-at-high+else-is_before, else-at-high-via-else-at-high}

pub loop-low-preserved-then-is_before : goal.loop-low-preserved-then-is_before
loop-low-preserved-then-is_before c = record {
  within = omega (arith, c.if-at-high.true);
  bound = c.loop-low.invariant.bound;
  front = ends_next c.args.key.now c.next_entry-at.result c.args.all.now c.index-all-at.result (omega (arith, c.if-at-high.true, c.loop-low.invariant.bound)) (sym c.index-all-at.is)
      (sym c.is_before.ensures ∙ c.if-is_before.true);
  rest = c.loop-low.invariant.rest;
}

pub loop-low-preserved : goal.loop-low-preserved
loop-low-preserved c = record {
  within = omega (arith, c.loop-low-test.true);
  bound = omega (arith, c.loop-low-test.true, c.loop-low.invariant.bound);
  front = c.loop-low.invariant.front;
  rest = elim c.else-at-high.branch [
    | else-at-high-via-then-at-high+else-is_before w ↦
        not_before c.args.key.now (c.loop-low.low + (c.loop-low.high - c.loop-low.low) / 2) c.next_entry-at.result c.args.all.now w.index-all-at.result c.next_entry-at.ensures.entry
        (omega (arith, w.if-at-high.true, c.loop-low.invariant.bound)) (sym w.index-all-at.is) (sym w.is_before.ensures ∙ w.if-is_before.false)
    | else-at-high-via-else-at-high w ↦
        still_not_before c.args.key.now (c.loop-low.low + (c.loop-low.high - c.loop-low.low) / 2) c.loop-low.high c.next_entry-at.result (pieces c.args.all.now)
        (omega (arith, c.loop-low-test.true)) w.if-at-high.false (omega (arith, c.next_entry-at.ensures.bound, length-map c.args.all.now piece_of)) c.next_entry-at.ensures.entry c.loop-low.invariant.rest
  ];
}
