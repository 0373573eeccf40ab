use Rattle.std.proofs.Common.{rules, length, refl, sym, ap}
use Rattle.dagcbor_heads.proofs.Writing.{next_part, exit_part, all_written}
use Rattle.dagcbor_write.specs.Texts.{text_pair}
use Rattle.dagcbor_write.proofs.Parts.{part_split}
use Rattle.dagcbor_write.proofs.PlaceOrder.{at_pair, no_pair_left, good_pair, all_good}
use Rattle.dagcbor_write.proofs.Texts.{begin_row, row_good}
use Rattle.dagcbor_write.proofs.types.texts.write_row.Goals as goal

pub returns-in_err-push_head-clause-written : goal.returns-in_err-push_head-clause-written
returns-in_err-push_head-clause-written g c =
    let w = begin_row g.V.Serialize.tree c.args.row.now (length c.args.row.now) _ refl c.requires in
    exit_part w _ _ _ c.from_residual.ensures.1 c.in_err-push_head.ensures.written

pub loop-entry-init : goal.loop-entry-init
loop-entry-init g c =
    let w = begin_row g.V.Serialize.tree c.args.row.now (length c.args.row.now) _ refl c.requires in
    record {
      written = next_part w _ c.in_ok-push_head.ensures.written;
      well_formed = λ all. all;
    }

pub returns-in_err-serialize_str-clause-written : goal.returns-in_err-serialize_str-clause-written
returns-in_err-serialize_str-clause-written g c =
    let pair = text_pair g.V.Serialize.tree in
    let w = part_split (at_pair pair c.args.row.now _ _ _ c.loop-entry-test.true (sym (ap pair c.entry-item.is)) c.loop-entry.invariant.written) in
    exit_part w _ _ _ c.from_residual-in_err-serialize_str.ensures.1 c.in_err-serialize_str.ensures.written

pub returns-in_err-write_value-clause-written : goal.returns-in_err-write_value-clause-written
returns-in_err-write_value-clause-written g c =
    let pair = text_pair g.V.Serialize.tree in
    let w = part_split (at_pair pair c.args.row.now _ _ _ c.loop-entry-test.true (sym (ap pair c.entry-item.is)) c.loop-entry.invariant.written) in
    exit_part (next_part w _ c.in_ok-serialize_str.ensures.written) _ _ _ c.from_residual-in_err-write_value.ensures.1 c.in_err-write_value.ensures.written

pub loop-entry-preserved : goal.loop-entry-preserved
loop-entry-preserved g c =
    let pair = text_pair g.V.Serialize.tree in
    let is = sym (ap pair c.entry-item.is) in
    let w = part_split (at_pair pair c.args.row.now _ _ _ c.loop-entry-test.true is c.loop-entry.invariant.written) in
    record {
      written = next_part (next_part w _ c.in_ok-serialize_str.ensures.written) _ c.in_ok-write_value.ensures.written;
      well_formed = good_pair pair c.args.row.now _ _ _ c.loop-entry-test.true is c.loop-entry.invariant.well_formed (search rules, c.in_ok-write_value.ensures.well_formed);
    }

pub returns-clause-written : goal.returns-clause-written
returns-clause-written g c =
    all_written (no_pair_left (text_pair g.V.Serialize.tree) c.args.row.now _ c.loop-entry-test.false c.loop-entry.invariant.written)

pub returns-clause-well_formed : goal.returns-clause-well_formed
returns-clause-well_formed g c =
    let tree = g.V.Serialize.tree in
    row_good tree c.args.row.now c.requires
    (all_good (text_pair tree) c.args.row.now _ c.loop-entry-test.false c.loop-entry.invariant.well_formed)
