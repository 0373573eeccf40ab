use Rattle.std.proofs.Common.{◌∙◌, sym, arith, Ok, Err}
use Rattle.ipld_tree.specs.Ipld.{tree_of}
use Rattle.text_dag_json.proofs.Slots.{is_found}
use Rattle.text_dag_json.proofs.Members.{data_object, on_ok, on_err, refused_with, items_refused, items_next, items_done, members_repeated, members_refused, members_next}
use Rattle.text_dag_json.proofs.read.+data.Goals as goal

pub part_of-returns-in-Object-clause-data : goal.part_of-returns-in-Object-clause-data
part_of-returns-in-Object-clause-data t c = on_ok c.map_of.result (λ v. data_object c.args.value.now c.in-Object.members c.deref-in-Object.result.now (Ok (tree_of v)) c.in-Object.is c.deref-in-Object.ensures.value) c.map_of.ensures.«data»

pub part_of-returns-in-Object-clause-refused : goal.part_of-returns-in-Object-clause-refused
part_of-returns-in-Object-clause-refused t c = on_err c.map_of.result (λ e h other. data_object c.args.value.now c.in-Object.members c.deref-in-Object.result.now (Err e) c.in-Object.is c.deref-in-Object.ensures.value (h other)) c.map_of.ensures.refused

pub items_of-returns-in_err-item-clause-refused : goal.items_of-returns-in_err-item-clause-refused
items_of-returns-in_err-item-clause-refused t c = refused_with _ c.from_residual.result c.in_err-item.field-0.0 c.from_residual.ensures.1 (λ other. items_refused c.args.values.now c.loop-value.value-index c.value-item.result c.loop-value.items.items _ (omega (arith, c.loop-value-test.true)) c.value-item.is c.loop-value.invariant (c.in_err-item.ensures.refused other))

pub items_of-loop-value-preserved : goal.items_of-loop-value-preserved
items_of-loop-value-preserved t c = items_next c.args.values.now c.loop-value.value-index c.value-item.result c.loop-value.items.items _ c.in_ok-item.item (omega (arith, c.loop-value-test.true)) c.value-item.is c.loop-value.invariant c.in_ok-item.ensures.«data» c.in_ok-push_item.ensures.ok

pub items_of-returns-clause-data : goal.items_of-returns-clause-data
items_of-returns-clause-data t c = items_done c.args.values.now c.loop-value.value-index c.loop-value.items.items (omega (arith, c.loop-value-test.false)) c.loop-value.invariant

pub entries_of-returns-then-contains_key-clause-refused : goal.entries_of-returns-then-contains_key-clause-refused
entries_of-returns-then-contains_key-clause-refused t c = λ _. members_repeated c.args.members.now c.loop-member.member-index c.member-item.result c.loop-member.entries.entries (omega (arith, c.loop-member-test.true)) c.member-item.is c.loop-member.invariant
    (sym (is_found c.member-item.result.0.now c.loop-member.entries.entries) ∙ sym c.contains_key.ensures ∙ c.if-contains_key.true)

pub entries_of-returns-in_err-value-clause-refused : goal.entries_of-returns-in_err-value-clause-refused
entries_of-returns-in_err-value-clause-refused t c = refused_with _ c.from_residual.result c.in_err-value.field-0.0 c.from_residual.ensures.1 (λ other. members_refused c.args.members.now c.loop-member.member-index c.member-item.result c.loop-member.entries.entries _ (omega (arith, c.loop-member-test.true)) c.member-item.is c.loop-member.invariant
    (sym (is_found c.member-item.result.0.now c.loop-member.entries.entries) ∙ sym c.contains_key.ensures ∙ c.if-contains_key.false) (c.in_err-value.ensures.refused other))

pub entries_of-loop-member-preserved : goal.entries_of-loop-member-preserved
entries_of-loop-member-preserved t c = members_next c.args.members.now c.loop-member.member-index c.member-item.result c.loop-member.entries.entries _ c.in_ok-key.key c.in_ok-value.value (omega (arith, c.loop-member-test.true)) c.member-item.is c.loop-member.invariant
    (sym (is_found c.member-item.result.0.now c.loop-member.entries.entries) ∙ sym c.contains_key.ensures ∙ c.if-contains_key.false) c.in_ok-value.ensures.«data» c.in_ok-key.ensures.text c.in_ok-put_entry.ensures.ok
