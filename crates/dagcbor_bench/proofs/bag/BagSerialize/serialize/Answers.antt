use Rattle.std.proofs.Common.{rules}
use Rattle.dagcbor_heads.proofs.Writing.{Writes_at, exit_part, next_part, last_part}
use Rattle.dagcbor_write.proofs.Refusals.{may_want}
use Rattle.dagcbor_write.proofs.Lists.{AreTrees_next, AreTrees_all, OnOk_of}
use Rattle.dagcbor_write.proofs.Waiting.{Holds_none, Holds_room, Holds_complete, Holds_next, Holds_all, Holds_refused, none_among, begin_later}
use Rattle.dagcbor_bench.proofs.bag.BagSerialize.serialize.Goals as goal

pub returns-in_err-list-clause-written : goal.returns-in_err-list-clause-written
returns-in_err-list-clause-written g c = exit_part (begin_later _ _) _ _ _ c.from_residual.ensures.1 (rw c.in_err-list.was at c.serialize_seq.follows.holds-at-none)

pub loop-item-init : goal.loop-item-init
loop-item-init g c = record { same_reference = search rules; holds = Holds_none _ c.in_ok-list.ensures.fresh; nothing = c.in_ok-list.ensures.head; well_formed = tt }

pub serialize_element-requires : goal.serialize_element-requires
serialize_element-requires g c = Holds_room _ _ c.loop-item.invariant.holds

pub end-requires : goal.end-requires
end-requires g c = Holds_complete _ _ c.loop-item.invariant.holds

pub loop-item-preserved : goal.loop-item-preserved
loop-item-preserved g c =
    let next = Holds_next g.T.Serialize.tree _ _ _ _ _ _ _ _ c.serialize_element.result c.loop-item-test.true c.item-item.is c.loop-item.invariant.holds c.loop-item.invariant.nothing (search rules) c.serialize_element.ensures.item in
    record { same_reference = search rules; holds = next.0; nothing = next.1; well_formed = AreTrees_next g.T.Serialize.tree _ _ _ c.loop-item-test.true c.item-item.is c.loop-item.invariant.well_formed c.in_ok-serialize_element.ensures.well_formed }

pub returns-in_err-serialize_element-clause-written : goal.returns-in_err-serialize_element-clause-written
returns-in_err-serialize_element-clause-written g c =
    let w = next_part (begin_later _ _) _ c.loop-item.invariant.nothing in
    Writes_at _ _ _ _ _ (search rules) (last_part w _ _ (Holds_refused _ _ _ _ _ _ _ _ _ c.loop-item.invariant.holds c.in_err-serialize_element.ensures.item
    (λ n. rw c.deref-item-items.ensures.value at (none_among g.T.Serialize.tree _ _ _ c.loop-item-test.true c.item-item.is n)) c.from_residual-in_err-serialize_element.ensures.1))

pub returns-clause-written : goal.returns-clause-written
returns-clause-written g c =
    let w = next_part (begin_later _ _) _ c.loop-item.invariant.nothing in
    let all = rw c.deref-item-items.ensures.value at (Holds_all g.T.Serialize.tree _ _ _ c.loop-item-test.false c.loop-item.invariant.holds) in
    Writes_at _ _ _ _ _ (search rules) (last_part w _ _ (rw all at c.end.ensures.written))

pub returns-clause-well_formed : goal.returns-clause-well_formed
returns-clause-well_formed g c =
    OnOk_of _ (rw c.deref-item-items.ensures.value at (AreTrees_all g.T.Serialize.tree _ _ c.loop-item-test.false c.loop-item.invariant.well_formed))

pub returns-clause-memory : goal.returns-clause-memory
returns-clause-memory g c = may_want _
