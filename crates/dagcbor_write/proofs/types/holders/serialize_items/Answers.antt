use Rattle.std.proofs.Common.{rules, length, refl}
use Rattle.dagcbor_heads.proofs.Writing.{next_part, exit_part, all_written, Writes_at, Writes_ok}
use Rattle.dagcbor_write.proofs.Lists.{begin_items, at_item, at-end, AreTrees_next}
use Rattle.dagcbor_write.proofs.Messages.{exit_tells, exit_item}
use Rattle.dagcbor_write.specs.Answers.{NoMessage, IsMessageOfAny}
use Rattle.dagcbor_write.proofs.types.holders.serialize_items.Goals as goal

pub returns-in_err-list-clause-written : goal.returns-in_err-list-clause-written
returns-in_err-list-clause-written g c =
    let w = begin_items g.T.Serialize.tree c.args.items.now (length c.args.items.now) (g.W.Write.written c.args.ser.now) refl in
    exit_part w _ _ _ c.from_residual.ensures.1 (rw c.in_err-list.was at c.serialize_tuple.follows.holds-at-none)

pub loop-item-init : goal.loop-item-init
loop-item-init g c =
    let w = begin_items g.T.Serialize.tree c.args.items.now (length c.args.items.now) (g.W.Write.written c.args.ser.now) refl in
    record { same_reference = search rules; left = search rules; written = next_part w _ c.in_ok-list.ensures.begins.head; well_formed = tt }

pub loop-item-preserved : goal.loop-item-preserved
loop-item-preserved g c =
    let w = at_item g.T.Serialize.tree _ _ _ c.loop-item-test.true c.item-item.is _ _ _ c.loop-item.invariant.written in
    record { same_reference = search rules; left = search rules; written = next_part w _ c.in_ok-serialize_element.ensures.item; well_formed = AreTrees_next g.T.Serialize.tree _ _ _ c.loop-item-test.true c.item-item.is c.loop-item.invariant.well_formed c.in_ok-serialize_element.ensures.well_formed }

pub returns-in_err-serialize_element-clause-written : goal.returns-in_err-serialize_element-clause-written
returns-in_err-serialize_element-clause-written g c =
    let w = at_item g.T.Serialize.tree _ _ _ c.loop-item-test.true c.item-item.is _ _ _ c.loop-item.invariant.written in
    Writes_at _ _ _ _ _ (search rules) (exit_part w _ _ _ c.from_residual-in_err-serialize_element.ensures.1 c.in_err-serialize_element.ensures.item)

pub returns-clause-written : goal.returns-clause-written
returns-clause-written g c =
    let w = at-end g.T.Serialize.tree _ _ c.loop-item-test.false _ _ _ c.loop-item.invariant.written in
    Writes_at _ _ _ _ _ (search rules) (Writes_ok _ _ _ _ c.end.ensures.ok (all_written w))

pub returns-in_err-list-clause-told : goal.returns-in_err-list-clause-told
returns-in_err-list-clause-told g c = exit_tells NoMessage (IsMessageOfAny g.T.Serialize.tree g.T.Serialize.message c.args.items.now) _ _ c.from_residual.ensures.1 (λ m k. absurd k) c.in_err-list.ensures.begins.silent

pub returns-in_err-serialize_element-clause-told : goal.returns-in_err-serialize_element-clause-told
returns-in_err-serialize_element-clause-told g c =
    exit_item g.T.Serialize.tree g.T.Serialize.message c.args.items.now _ _ c.loop-item-test.true c.item-item.is _ _ c.from_residual-in_err-serialize_element.ensures.1 c.in_err-serialize_element.ensures
