use Rattle.std.proofs.Common.{refl, sym, ap, arith, rules, ◌∙◌}
use Rattle.std.specs.Prelude.{⊤}
use Rattle.dagcbor_heads.proofs.Refusing.{as_refusal}
use Rattle.dagcbor_heads.specs.Reading.{Reading}
use Rattle.dagcbor_heads.proofs.Looking.{looks_more, looks_then, some_both, some_then, some_taken, nothing_looked, same_looked}
use Rattle.dagcbor_items.proofs.Looks.{once_left_more, looks_after_peek, stepped_left, looks_stepped}
use Rattle.ipld_tree.specs.Tree.{ordered_entries}
use Rattle.ipld_tree.specs.Ipld.{tree_of, pairs_of}
use Rattle.ipld_tree.specs.declared.ipld.Ipld.{the_lemmas}
use Rattle.dagcbor_items.proofs.Fronts.{byte_refused}
use Rattle.dagcbor_items.proofs.Leaves.{indefinite_refused}
use Rattle.dagcbor_items.proofs.Steps.{no_step_left, stepped_refused, more_lacks}
use Rattle.dagcbor_items.proofs.Lists.{list_refused, list_as_tree, next_refused, one_item_read, map_placed, map_pushed, item_taken}
use Rattle.dagcbor_items.proofs.Maps as maps
use Rattle.dagcbor_items.proofs.Entering.{enters}
use Rattle.dagcbor_items.proofs.Pushes.{ordered_push, pushed_as}
use Rattle.dagcbor_items.proofs.Keys.{follows_as}
use Rattle.dagcbor_items.proofs.StringItems.{text_taken}
use Rattle.dagcbor_items.proofs.any.+any.Goals as goal

pub read_into-returns-in_err-spend_step-clause-item : goal.read_into-returns-in_err-spend_step-clause-item
read_into-returns-in_err-spend_step-clause-item g t c = as_refusal _ _ _ _ c.from_residual.ensures.1 (no_step_left _ _ c.in_err-spend_step.ensures)

pub read_into-returns-in_err-read_item-clause-item : goal.read_into-returns-in_err-read_item-clause-item
read_into-returns-in_err-read_item-clause-item g t c =
    as_refusal _ _ _ _ c.from_residual-in_err-read_item.ensures.1 (stepped_refused _ 0 _ c.in_ok-spend_step.ensures (λ x. x) c.in_err-read_item.ensures.item)

pub read_item-returns-in_err-first-clause-item : goal.read_item-returns-in_err-first-clause-item
read_item-returns-in_err-first-clause-item g t c = as_refusal _ _ _ _ c.from_residual.ensures.1 (byte_refused ⊤ 0 _ _ _ c.in_err-first.ensures.variant c.in_err-first.ensures.shown)

pub read_item-returns-then-is_indefinite-clause-item : goal.read_item-returns-then-is_indefinite-clause-item
read_item-returns-then-is_indefinite-clause-item g t c = indefinite_refused g.row.R-Error.Denot ⊤ 0 c.in_ok-first.ensures.shown (c.is_indefinite.ensures.0 c.if-is_indefinite.true)

pub read_list-returns-in_err-count-clause-item : goal.read_list-returns-in_err-count-clause-item
read_list-returns-in_err-count-clause-item g t c = as_refusal _ _ _ _ c.from_residual.ensures.1 (more_lacks ⊤ 1 _ _ _ (λ x. absurd x) c.in_err-count.ensures.count)

pub read_map-returns-in_err-count-clause-item : goal.read_map-returns-in_err-count-clause-item
read_map-returns-in_err-count-clause-item g t c = as_refusal _ _ _ _ c.from_residual.ensures.1 (more_lacks ⊤ 1 _ _ _ (λ x. absurd x) c.in_err-count.ensures.count)

pub read_list-returns-in_err-items-clause-item : goal.read_list-returns-in_err-items-clause-item
read_list-returns-in_err-items-clause-item g t c =
    as_refusal _ _ _ _ c.from_residual-in_err-items.ensures.1 (list_refused _ _ _ c.requires (enters 4 c.requires c.in_ok-count.ensures.count) (λ x. x) c.in_err-items.ensures.items)

pub read_map-returns-in_err-entries-clause-item : goal.read_map-returns-in_err-entries-clause-item
read_map-returns-in_err-entries-clause-item g t c =
    as_refusal _ _ _ _ c.from_residual-in_err-entries.ensures.1 (maps.map_refused _ _ _ c.requires (enters 5 c.requires c.in_ok-count.ensures.count) (λ x. x) c.in_err-entries.ensures.entries)

pub read_list-returns-clause-item : goal.read_list-returns-clause-item
read_list-returns-clause-item g t c = list_as_tree _ (enters 4 c.requires c.in_ok-count.ensures.count) c.in_ok-items.ensures.items c.step_out.ensures

pub read_map-returns-clause-item : goal.read_map-returns-clause-item
read_map-returns-clause-item g t c = maps.map_as_tree _ (enters 5 c.requires c.in_ok-count.ensures.count) c.in_ok-entries.ensures.entries c.step_out.ensures

pub read_list-returns-in_err-count-clause-looked : goal.read_list-returns-in_err-count-clause-looked
read_list-returns-in_err-count-clause-looked g t c = as_refusal _ _ _ _ c.from_residual.ensures.1 c.in_err-count.ensures.looked

pub read_map-returns-in_err-count-clause-looked : goal.read_map-returns-in_err-count-clause-looked
read_map-returns-in_err-count-clause-looked g t c = as_refusal _ _ _ _ c.from_residual.ensures.1 c.in_err-count.ensures.looked

pub read_list-returns-in_err-items-clause-looked : goal.read_list-returns-in_err-items-clause-looked
read_list-returns-in_err-items-clause-looked g t c = as_refusal _ _ _ _ c.from_residual-in_err-items.ensures.1 (looks_then c.in_ok-count.ensures.looked c.in_err-items.ensures.looked)

pub read_map-returns-in_err-entries-clause-looked : goal.read_map-returns-in_err-entries-clause-looked
read_map-returns-in_err-entries-clause-looked g t c = as_refusal _ _ _ _ c.from_residual-in_err-entries.ensures.1 (looks_then c.in_ok-count.ensures.looked c.in_err-entries.ensures.looked)

pub read_list-returns-clause-looked : goal.read_list-returns-clause-looked
read_list-returns-clause-looked g t c = looks_stepped _ refl (looks_more c.in_ok-count.ensures.looked c.in_ok-items.ensures.looked) c.step_out.ensures

pub read_map-returns-clause-looked : goal.read_map-returns-clause-looked
read_map-returns-clause-looked g t c = looks_stepped _ refl (looks_more c.in_ok-count.ensures.looked c.in_ok-entries.ensures.looked) c.step_out.ensures

pub read_items-returns-in_err-read_into-clause-items : goal.read_items-returns-in_err-read_into-clause-items
read_items-returns-in_err-read_into-clause-items g t c =
    as_refusal _ _ _ _ c.from_residual.ensures.1 (next_refused _ _ _ (omega arith) c.loop-index.invariant.read (λ x. x) (rw c.in_default.ensures.taken at c.in_err-read_into.ensures.item))

pub read_items-loop-index-preserved-in-Some : goal.read_items-loop-index-preserved-in-Some
read_items-loop-index-preserved-in-Some g t c =
    let pushed = map_pushed tree_of c.push.result _ _ _ c.if-is_err.ensures.value c.push.ensures.items in
    record {
      read = one_item_read _ _ pushed (omega arith) c.loop-index.invariant.read (item_taken _ _ _ _ (search (rules, the_lemmas)) c.in-Some.ensures.taken);
      looked = some_both c.loop-index.invariant.looked (some_taken c.in-Some.ensures.looked);
    }

pub read_items-loop-index-preserved : goal.read_items-loop-index-preserved
read_items-loop-index-preserved g t c =
    let placed = map_placed tree_of c.push-in-loop-index.result _ _ _ _ _ c.if-is_err-3.ensures.value c.push-in-loop-index.ensures.items (omega (arith, c.len-last.ensures)) in
    record {
      read = one_item_read _ _ placed (omega arith) c.loop-index.invariant.read (rw c.in_default.ensures.taken at c.in_ok-read_into-2.ensures.item);
      looked = some_both c.loop-index.invariant.looked (some_taken (rw c.in_default.ensures.taken at c.in_ok-read_into-2.ensures.looked));
    }

pub read_items-returns-in_err-read_into-2-clause-items : goal.read_items-returns-in_err-read_into-2-clause-items
read_items-returns-in_err-read_into-2-clause-items g t c =
    as_refusal _ _ _ _ c.from_residual-in_err-read_into-2.ensures.1 (next_refused _ _ _ (omega arith) c.loop-index.invariant.read (λ x. x) (rw c.in_default.ensures.taken at c.in_err-read_into-2.ensures.item))

pub read_items-loop-index-init : goal.read_items-loop-index-init
read_items-loop-index-init g t c = record { read = search rules; looked = nothing_looked _ }

pub read_items-returns-in_err-read_into-clause-looked : goal.read_items-returns-in_err-read_into-clause-looked
read_items-returns-in_err-read_into-clause-looked g t c = as_refusal _ _ _ _ c.from_residual.ensures.1 (some_then c.loop-index.invariant.looked (rw c.in_default.ensures.taken at c.in_err-read_into.ensures.looked))

pub read_entries-loop-index-init : goal.read_entries-loop-index-init
read_entries-loop-index-init g t c = record {
  read = maps.no_entry_read _ _ _ _ _ (omega arith) (ap (λ es. ordered_entries (pairs_of es)) c.new-entries.ensures.empty) refl;
  looked = nothing_looked _;
}

pub read_entries-returns-in_err-key-clause-looked : goal.read_entries-returns-in_err-key-clause-looked
read_entries-returns-in_err-key-clause-looked g t c = as_refusal _ _ _ _ c.from_residual.ensures.1 (some_then c.loop-index.invariant.looked c.in_err-key.ensures.looked)

pub read_entries-returns-in_err-read_into-clause-looked : goal.read_entries-returns-in_err-read_into-clause-looked
read_entries-returns-in_err-read_into-clause-looked g t c =
    as_refusal _ _ _ _ c.from_residual-in_err-read_into.ensures.1 (some_then (some_both c.loop-index.invariant.looked (some_taken c.in_ok-key.ensures.looked)) c.in_err-read_into.ensures.looked)

pub read_entries-returns-in_err-key-clause-entries : goal.read_entries-returns-in_err-key-clause-entries
read_entries-returns-in_err-key-clause-entries g t c =
    as_refusal _ _ _ _ c.from_residual.ensures.1 (maps.next_key_refused _ _ (omega arith) c.loop-index.invariant.read (λ _. tt) c.in_err-key.ensures.key)

pub read_entries-returns-in_err-read_into-clause-entries : goal.read_entries-returns-in_err-read_into-clause-entries
read_entries-returns-in_err-read_into-clause-entries g t c =
    as_refusal _ _ _ _ c.from_residual-in_err-read_into.ensures.1 (maps.next_value_refused _ _ _ (omega arith) c.loop-index.invariant.read c.in_ok-key.ensures.key.0 (text_taken _ c.in_ok-key.ensures.key.1) (λ x. x) c.in_err-read_into.ensures.item)

pub read_entries-loop-index-preserved : goal.read_entries-loop-index-preserved
read_entries-loop-index-preserved g t c =
    let put = maps.on_ok _ _ c.if-is_err.ensures.value c.insert.ensures.entries in
    let follows = c.in_ok-key.ensures.key.0 in
    let following = maps.after_last _ c.loop-index.invariant.read follows in
    let same = c.in-Ok.ensures.ok ∙ c.as_str.ensures.value in
    let pushed = ordered_push _ _ _ _ put c.insert.ensures.was_ordered c.insert.ensures.ordered (follows_as _ _ _ (sym same) following) in
    record {
      read = maps.one_entry_read _ _ _ _ (pushed_as _ _ _ _ _ same pushed) refl (omega arith) c.loop-index.invariant.read follows (text_taken _ c.in_ok-key.ensures.key.1) c.in_ok-read_into.ensures.item;
      looked = some_both (some_both c.loop-index.invariant.looked (some_taken c.in_ok-key.ensures.looked)) (some_taken c.in_ok-read_into.ensures.looked);
    }

pub read_into-returns-in_err-spend_step-clause-looked : goal.read_into-returns-in_err-spend_step-clause-looked
read_into-returns-in_err-spend_step-clause-looked g t c = as_refusal _ _ _ _ c.from_residual.ensures.1 (same_looked (ap (λ (r : Reading). r.looked) c.in_err-spend_step.ensures.same))

pub read_into-returns-in_err-read_item-clause-looked : goal.read_into-returns-in_err-read_item-clause-looked
read_into-returns-in_err-read_item-clause-looked g t c = as_refusal _ _ _ _ c.from_residual-in_err-read_item.ensures.1 (stepped_left _ c.in_ok-spend_step.ensures.is c.in_err-read_item.ensures.looked)

pub read_into-returns-clause-looked : goal.read_into-returns-clause-looked
read_into-returns-clause-looked g t c = looks_stepped _ c.in_ok-spend_step.ensures.is c.in_ok-read_item.ensures.looked c.step_out.ensures

pub read_item-returns-in_err-first-clause-looked : goal.read_item-returns-in_err-first-clause-looked
read_item-returns-in_err-first-clause-looked g t c = as_refusal _ _ _ _ c.from_residual.ensures.1 (once_left_more 3 (omega arith) c.in_err-first.ensures.looked)

pub read_item-returns-then-is_indefinite-clause-looked : goal.read_item-returns-then-is_indefinite-clause-looked
read_item-returns-then-is_indefinite-clause-looked g t c = once_left_more 3 (omega arith) c.in_ok-first.ensures.looked

pub read_item-returns-clause-looked : goal.read_item-returns-clause-looked
read_item-returns-clause-looked g t c = looks_after_peek 3 _ _ c.in_ok-first.ensures.looked c.in_ok-first.ensures.shown (rw c.in_default.ensures.taken at c.put_of_major.ensures.looked)
