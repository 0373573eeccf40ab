use Rattle.std.proofs.Common.{refl}
use Rattle.dagcbor_heads.proofs.Writing.{next_part, exit_part}
use Rattle.dagcbor_write.proofs.Parts.{begin_two, part_opened}
use Rattle.dagcbor_write.proofs.KeyOrder.{at_keyed, values_next}
use Rattle.dagcbor_write.proofs.MapMessages.{value_message}
use Rattle.dagcbor_write.proofs.collect.keyed.Keyed.write.Goals as goal

pub returns-in_err-push_head-clause-written : goal.returns-in_err-push_head-clause-written
returns-in_err-push_head-clause-written g c =
    let w = begin_two _ _ _ _ refl in
    exit_part w _ _ _ c.from_residual.ensures.1 (rw c.len.ensures at c.in_err-push_head.ensures.written)

pub returns-in_err-push-clause-written : goal.returns-in_err-push-clause-written
returns-in_err-push-clause-written g c =
    let inside = rw c.len-i-end.ensures at c.loop-i-test.true in
    let w = at_keyed g.V.Serialize.tree c.args.self.now _ _ _ inside c.key.ensures
    c.value-value.ensures _ _ _ c.loop-i.invariant.written in
    exit_part w _ _ _ c.from_residual-in_err-push.ensures.1 c.in_err-push.ensures.written

pub returns-in_err-write_value-clause-written : goal.returns-in_err-write_value-clause-written
returns-in_err-write_value-clause-written g c =
    let inside = rw c.len-i-end.ensures at c.loop-i-test.true in
    let w = at_keyed g.V.Serialize.tree c.args.self.now _ _ _ inside c.key.ensures
    c.value-value.ensures _ _ _ c.loop-i.invariant.written in
    let w = next_part w _ c.in_ok-push.ensures.written in
    exit_part (part_opened _ _ refl w) _ _ _ c.from_residual-in_err-write_value.ensures.1 c.in_err-write_value.ensures.written

pub loop-i-preserved : goal.loop-i-preserved
loop-i-preserved g c =
    let inside = rw c.len-i-end.ensures at c.loop-i-test.true in
    let w = at_keyed g.V.Serialize.tree c.args.self.now _ _ _ inside c.key.ensures
    c.value-value.ensures _ _ _ c.loop-i.invariant.written in
    let w = next_part w _ c.in_ok-push.ensures.written in
    let good = c.in_ok-write_value.ensures.well_formed in
    record {
      written = next_part (part_opened _ _ refl w) _ c.in_ok-write_value.ensures.written;
      well_formed = values_next g.V.Serialize.tree c.args.self.now _ _ _ inside c.key.ensures
          c.value-value.ensures c.loop-i.invariant.well_formed good;
    }

pub returns-in_err-write_value-clause-message : goal.returns-in_err-write_value-clause-message
returns-in_err-write_value-clause-message g c =
    let inside = rw c.len-i-end.ensures at c.loop-i-test.true in
    value_message g.V.Serialize.tree _ _ _ inside c.value-value.ensures
    (g.W.Write.written c.push.new.self) (g.W.Write.written c.write_value.new.ser) _ _
    c.from_residual-in_err-write_value.ensures.1 c.in_err-write_value.ensures.message
    c.in_err-write_value.ensures.written
