use Rattle.std.proofs.Common.{arith, option_map}
use Rattle.abi_calls.proofs.Spelling.{next_token}
use Rattle.abi_calls.proofs.JudgedTapes.{if_some, leaf_tells, list_tells, map_tells, no_items_tell, one_item_tells, all_items_tell, no_entries_tell, one_entry_tells, all_entries_tell}
use Rattle.abi_calls.proofs.judge.+judge.Goals as goal

pub after_item-returns-in_ok-room-in-5 : goal.after_item-returns-in_ok-room-in-5
after_item-returns-in_ok-room-in-5 t c =
    if_some _ _ c.after_items.result
    (λ next k. list_tells c.args.bytes.now c.args.tape.now _ c.args.at next c.args.room.now _ _ c.args.steps (omega arith) (next_token c.args.tape.now c.args.at _ (omega arith)) (omega arith) c.in-5.is (omega arith) (omega (arith, c.in_ok-room-in-5.ensures, c.head_length.ensures.length 4)) k)
    c.after_items.ensures

pub after_item-returns-in_ok-room-in-6 : goal.after_item-returns-in_ok-room-in-6
after_item-returns-in_ok-room-in-6 t c =
    if_some _ _ c.after_entries.result
    (λ next k. map_tells c.args.bytes.now c.args.tape.now _ c.args.at next c.args.room.now _ _ c.args.steps (omega arith) (next_token c.args.tape.now c.args.at _ (omega arith)) (omega arith) c.in-6.is (omega arith) (omega (arith, c.in_ok-room-in-6.ensures, c.head_length-in-6.ensures.length 5)) k)
    c.after_entries.ensures

pub after_item-returns-in_ok-room-in_default : goal.after_item-returns-in_ok-room-in_default
after_item-returns-in_ok-room-in_default t c =
    leaf_tells c.args.bytes.now c.args.tape.now _ c.args.at c.args.room.now _ _ c.args.steps (omega arith) (next_token c.args.tape.now c.args.at _ (omega arith)) c.requires c.in_ok-leaf_length-in_default.ensures (omega (arith, c.in_ok-room-in_default.ensures))

pub after_items-loop-more-init : goal.after_items-loop-more-init
after_items-loop-more-init t c = no_items_tell c.args.bytes.now c.args.tape.now c.args.at c.args.count c.args.steps c.args.room.now

pub after_items-loop-more-preserved : goal.after_items-loop-more-preserved
after_items-loop-more-preserved t c =
    one_item_tells c.args.bytes.now c.args.tape.now c.args.at c.loop-more.next c.in_ok-next.next c.args.count c.loop-more.more c.args.steps c.args.room.now c.loop-more.room c.after_item.new.room (omega arith) c.loop-more.invariant c.in_ok-next.ensures

pub after_items-returns : goal.after_items-returns
after_items-returns t c = all_items_tell c.args.bytes.now c.args.tape.now c.args.at c.loop-more.next c.args.count c.loop-more.more c.args.steps c.args.room.now c.loop-more.room (omega arith) c.loop-more.invariant

pub after_entries-loop-more-init : goal.after_entries-loop-more-init
after_entries-loop-more-init t c = no_entries_tell c.args.bytes.now c.args.tape.now c.args.at c.args.count c.args.steps c.args.room.now

pub after_entries-loop-more-preserved : goal.after_entries-loop-more-preserved
after_entries-loop-more-preserved t c =
    one_entry_tells c.args.bytes.now c.in_ok-key.key.now c.args.tape.now (option_map (λ s. s.now) c.loop-more.previous) c.args.at c.loop-more.next _ c.in_ok-next.next c.args.count c.loop-more.more c.args.steps c.args.room.now c.loop-more.room _ c.after_item.new.room (omega arith) c.loop-more.invariant c.in_ok-key.ensures.key c.in_ok-next.ensures

pub after_entries-returns : goal.after_entries-returns
after_entries-returns t c =
    all_entries_tell c.args.bytes.now c.args.tape.now (option_map (λ s. s.now) c.loop-more.previous) c.args.at c.loop-more.next c.args.count c.loop-more.more c.args.steps c.args.room.now c.loop-more.room (omega arith) c.loop-more.invariant
