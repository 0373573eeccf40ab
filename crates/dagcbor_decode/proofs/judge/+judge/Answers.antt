use Rattle.std.proofs.Common.{◌-◌, sym, ap, ◌∙◌, arith}
use Rattle.dagcbor_decode.specs.Decode.{got, item_of}
use Rattle.dagcbor_decode.proofs.Left.{bytes_after_head, none_left, stops_left, items_left, entries_left}
use Rattle.dagcbor_decode.proofs.Parts.{no_key}
use Rattle.dagcbor_decode.proofs.Standing.{leaf_read, list_read, map_read}
use Rattle.dagcbor_decode.proofs.Refusing.{no_list_step, no_map_step, no_leaf, no_steps, no_head_there, item_refused}
use Rattle.dagcbor_decode.proofs.judge.+judge.Goals as goal
use Rattle.dagcbor_decode.proofs.judge.+judge.Goals.{judge_item-in-Some+then-major-eq4+else-steps-ge2, judge_item-in-Some+else-major-eq4+then-major-eq5+else-steps-ge2-2, judge_item-in-Some+else-major-eq4+else-major-eq5+then-steps-ge1+in_default-after_leaf, judge_item-in-Some+else-major-eq4+else-major-eq5+else-steps-ge1, judge_item-in_default}

pub judge_item-returns-in_err-left : goal.judge_item-returns-in_err-left
judge_item-returns-in_err-left t c =
    rw c.from_residual.ensures (none_left _ _ _ c.in_err-left.ensures ∙ sym (list_read c.args.steps _ _ c.in-Some.more.now c.if-steps-ge2.true (rw c.if-major-eq4.true at c.in-Some.ensures)))

pub judge_item-last-requires : goal.judge_item-last-requires
judge_item-last-requires t c = (items_left _ _ _ c.in-Some.more.now (bytes_after_head _ _ c.args.bytes.now c.in-Some.more.now c.in-Some.ensures (λ i. (c.type_inv.bytes i).fits)) c.in_ok-left.ensures).0

pub judge_item-returns-then-steps-ge2 : goal.judge_item-returns-then-steps-ge2
judge_item-returns-then-steps-ge2 t c =
    ap (got tt) c.last.ensures
    ∙ sym (items_left _ _ _ c.in-Some.more.now (bytes_after_head _ _ c.args.bytes.now c.in-Some.more.now c.in-Some.ensures (λ i. (c.type_inv.bytes i).fits)) c.in_ok-left.ensures).1
    ∙ sym (list_read c.args.steps _ _ c.in-Some.more.now c.if-steps-ge2.true (rw c.if-major-eq4.true at c.in-Some.ensures))

pub judge_item-returns-in_err-left-2 : goal.judge_item-returns-in_err-left-2
judge_item-returns-in_err-left-2 t c =
    rw c.from_residual-in_err-left-2.ensures (none_left _ _ _ c.in_err-left-2.ensures ∙ sym (map_read c.args.steps _ _ c.in-Some.more.now c.if-steps-ge2-2.true (rw c.if-major-eq5.true at c.in-Some.ensures)))

pub judge_item-last-requires-then-steps-ge2-2 : goal.judge_item-last-requires-then-steps-ge2-2
judge_item-last-requires-then-steps-ge2-2 t c = (entries_left _ _ _ c.in-Some.more.now (bytes_after_head _ _ c.args.bytes.now c.in-Some.more.now c.in-Some.ensures (λ i. (c.type_inv.bytes i).fits)) c.in_ok-left-2.ensures).0

pub judge_item-returns-then-steps-ge2-2 : goal.judge_item-returns-then-steps-ge2-2
judge_item-returns-then-steps-ge2-2 t c =
    ap (got tt) c.last-then-steps-ge2-2.ensures
    ∙ sym (entries_left _ _ _ c.in-Some.more.now (bytes_after_head _ _ c.args.bytes.now c.in-Some.more.now c.in-Some.ensures (λ i. (c.type_inv.bytes i).fits)) c.in_ok-left-2.ensures).1
    ∙ sym (map_read c.args.steps _ _ c.in-Some.more.now c.if-steps-ge2-2.true (rw c.if-major-eq5.true at c.in-Some.ensures))

pub judge_item-returns-in-Some-after_leaf : goal.judge_item-returns-in-Some-after_leaf
judge_item-returns-in-Some-after_leaf t c = sym (leaf_read c.args.steps c.args.bytes.now _ c.if-steps-ge1.true (c.in-Some-after_leaf.ensures _ c.in-Some.ensures))

pub judge_item-refuse_item-requires : goal.judge_item-refuse_item-requires
judge_item-refuse_item-requires t c = elim c.match-split_head.branch [
  | judge_item-in-Some+then-major-eq4+else-steps-ge2 w ↦ no_list_step _ _ _ w.in-Some.more.now (λ i. (c.type_inv.bytes i).fits) (rw w.if-major-eq4.true at w.in-Some.ensures) (omega (arith, w.if-steps-ge2.false))
  | judge_item-in-Some+else-major-eq4+then-major-eq5+else-steps-ge2-2 w ↦ no_map_step _ _ _ w.in-Some.more.now (λ i. (c.type_inv.bytes i).fits) (rw w.if-major-eq5.true at w.in-Some.ensures) (omega (arith, w.if-steps-ge2-2.false))
  | judge_item-in-Some+else-major-eq4+else-major-eq5+then-steps-ge1+in_default-after_leaf w ↦
      no_leaf _ _ _ _ w.in-Some.more.now (λ i. (c.type_inv.bytes i).fits) w.in-Some.ensures w.if-major-eq4.false w.if-major-eq5.false (w.in_default-after_leaf.ensures _ w.in-Some.ensures)
  | judge_item-in-Some+else-major-eq4+else-major-eq5+else-steps-ge1 w ↦ no_steps c.args.steps c.args.bytes.now (omega (arith, w.if-steps-ge1.false))
  | judge_item-in_default w ↦ no_head_there _ _ (λ i. (c.type_inv.bytes i).fits) w.in_default.ensures
]

pub judge_item-returns : goal.judge_item-returns
judge_item-returns t c = sym (item_refused c.args.steps c.args.bytes.now _ _ c.refuse_item.ensures)

pub judge_entries-returns-in_default : goal.judge_entries-returns-in_default
judge_entries-returns-in_default t c = stops_left _ _ _ (c.loop-more.invariant ∙ no_key (item_of (c.args.steps - 2)) c.loop-more.more _ c.loop-more.rest.now _ _ c.loop-more-test.true c.refuse_key.ensures)
