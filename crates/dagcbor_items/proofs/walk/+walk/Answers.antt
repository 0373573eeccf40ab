use Rattle.std.proofs.Common.{inl, refl, sym, ◌∙◌, ap, subst, [], ◌∷◌, ◌++◌, arith}
use Rattle.dagcbor_items.specs.Walks.{WalkLacks, WalksItem}
use Rattle.dagcbor_heads.specs.Looking.{Looks}
use Rattle.dagcbor_heads.proofs.Refusing.{as_refusal}
use Rattle.dagcbor_heads.specs.Reading.{Reading}
use Rattle.dagcbor_heads.proofs.Looking.{looks_more, looks_then, some_both, some_then, some_taken, nothing_looked, same_looked}
use Rattle.dagcbor_items.proofs.Looks.{once_left_more, looks_after_peek, stepped_left, looks_stepped}
use Rattle.ipld_tree.specs.Tree.{no_entries}
use Rattle.dagcbor_items.proofs.Fronts.{byte_refused}
use Rattle.dagcbor_items.proofs.Leaves.{indefinite_refused}
use Rattle.dagcbor_items.proofs.Steps.{no_step_left, stepped_taken, more_lacks}
use Rattle.dagcbor_items.proofs.Walking.{lacks_before, rest_of_bytes, rest_of_items, rest_of_entries, rest_of_key, found_none, found_as, item_found, entry_found, none_handed, handed_inside, handed_in_items, handed_in_entries, handed_in_value, step_walk_refused, leaf_walked, walked_from}
use Rattle.dagcbor_items.proofs.StringItems.{text_taken}
use Rattle.dagcbor_items.proofs.Lists.{list_refused, list_taken, no_item_read, next_refused, one_item_read, all_items_read}
use Rattle.dagcbor_items.proofs.Maps as maps
use Rattle.dagcbor_items.proofs.Entering.{enters}
use Rattle.dagcbor_items.proofs.walk.+walk.Goals as goal

pub walk_by_bytes-returns-in_err-spend_step-clause-item : goal.walk_by_bytes-returns-in_err-spend_step-clause-item
walk_by_bytes-returns-in_err-spend_step-clause-item g t c = as_refusal _ _ _ _ c.from_residual.ensures.1 record { refuses = no_step_left _ _ c.in_err-spend_step.ensures; handed = none_handed g.S.LinkSink.sink _ _ }

pub walk_by_bytes-returns-in_err-walk_item-clause-item : goal.walk_by_bytes-returns-in_err-walk_item-clause-item
walk_by_bytes-returns-in_err-walk_item-clause-item g t c =
    as_refusal _ _ _ _ c.from_residual-in_err-walk_item.ensures.1 (step_walk_refused g.S.LinkSink.sink _ _ _ 0 _ c.in_ok-spend_step.ensures c.in_err-walk_item.ensures.item)

pub walk_by_bytes-returns-clause-item : goal.walk_by_bytes-returns-clause-item
walk_by_bytes-returns-clause-item g t c = let k = c.in_ok-walk_item.ensures.item in (k.0, stepped_taken 0 c.in_ok-spend_step.ensures k.1 c.step_out.ensures, k.2)

pub walk_item-returns-in_err-first-clause-item : goal.walk_item-returns-in_err-first-clause-item
walk_item-returns-in_err-first-clause-item g t c =
    as_refusal _ _ _ _ c.from_residual.ensures.1 record { refuses = byte_refused (WalkLacks g.S.LinkSink.sink.takes_memory (g.I.Read.reading c.args.input.now)) 0 _ _ _ c.in_err-first.ensures.variant c.in_err-first.ensures.shown; handed = none_handed g.S.LinkSink.sink _ _ }

pub walk_item-returns-then-is_indefinite-clause-item : goal.walk_item-returns-then-is_indefinite-clause-item
walk_item-returns-then-is_indefinite-clause-item g t c =
    record { refuses = indefinite_refused g.row.I-Error.Denot (WalkLacks g.S.LinkSink.sink.takes_memory (g.I.Read.reading c.args.input.now)) 0 c.in_ok-first.ensures.shown (c.is_indefinite.ensures.0 c.if-is_indefinite.true); handed = none_handed g.S.LinkSink.sink _ _ }

pub walk_item-returns-clause-item : goal.walk_item-returns-clause-item
walk_item-returns-clause-item g t c = walked_from g.S.LinkSink.sink c.args.links.now c.walk_of_major.new.links c.walk_of_major.result _ c.in_ok-first.ensures.shown c.walk_of_major.ensures.item

pub walk_of_major-returns-in_default-clause-item : goal.walk_of_major-returns-in_default-clause-item
walk_of_major-returns-in_default-clause-item g t c = leaf_walked g.S.LinkSink.sink (g.I.Read.reading c.args.input.now) c.args.links.now c.skip_leaf.result _ c.requires.starts (λ x. omega arith) (λ x. omega arith) (λ x. omega arith) c.skip_leaf.ensures.item

pub walk_list-returns-in_err-count-clause-item : goal.walk_list-returns-in_err-count-clause-item
walk_list-returns-in_err-count-clause-item g t c = as_refusal _ _ _ _ c.from_residual.ensures.1 record { refuses = more_lacks _ 1 _ _ _ (λ x. absurd x) c.in_err-count.ensures.count; handed = none_handed g.S.LinkSink.sink _ _ }

pub walk_map-returns-in_err-count-clause-item : goal.walk_map-returns-in_err-count-clause-item
walk_map-returns-in_err-count-clause-item g t c = as_refusal _ _ _ _ c.from_residual.ensures.1 record { refuses = more_lacks _ 1 _ _ _ (λ x. absurd x) c.in_err-count.ensures.count; handed = none_handed g.S.LinkSink.sink _ _ }

pub walk_list-returns-in_err-walk_items-clause-item : goal.walk_list-returns-in_err-walk_items-clause-item
walk_list-returns-in_err-walk_items-clause-item g t c =
    let parts = enters 4 c.requires c.in_ok-count.ensures.count in
    as_refusal _ _ _ _ c.from_residual-in_err-walk_items.ensures.1 record { refuses = list_refused _ _ _ c.requires parts (lacks_before parts.takes.same (rest_of_bytes parts.takes)) c.in_err-walk_items.ensures.items.refuses; handed = handed_inside g.S.LinkSink.sink _ _ parts.takes c.in_err-walk_items.ensures.items.handed }

pub walk_map-returns-in_err-walk_entries-clause-item : goal.walk_map-returns-in_err-walk_entries-clause-item
walk_map-returns-in_err-walk_entries-clause-item g t c =
    let parts = enters 5 c.requires c.in_ok-count.ensures.count in
    as_refusal _ _ _ _ c.from_residual-in_err-walk_entries.ensures.1 record { refuses = maps.map_refused _ _ _ c.requires parts (lacks_before parts.takes.same (rest_of_bytes parts.takes)) c.in_err-walk_entries.ensures.entries.refuses; handed = handed_inside g.S.LinkSink.sink _ _ parts.takes c.in_err-walk_entries.ensures.entries.handed }

pub walk_list-returns-clause-item : goal.walk_list-returns-clause-item
walk_list-returns-clause-item g t c = let k = c.in_ok-walk_items.ensures.items in (_, list_taken k.0 (enters 4 c.requires c.in_ok-count.ensures.count) k.1 k.2 c.step_out.ensures, k.3)

pub walk_map-returns-clause-item : goal.walk_map-returns-clause-item
walk_map-returns-clause-item g t c = let k = c.in_ok-walk_entries.ensures.entries in (_, maps.map_taken k.0 (enters 5 c.requires c.in_ok-count.ensures.count) k.1 k.2 c.step_out.ensures, k.3)

pub walk_list-returns-in_err-count-clause-looked : goal.walk_list-returns-in_err-count-clause-looked
walk_list-returns-in_err-count-clause-looked g t c = as_refusal _ _ _ _ c.from_residual.ensures.1 c.in_err-count.ensures.looked

pub walk_map-returns-in_err-count-clause-looked : goal.walk_map-returns-in_err-count-clause-looked
walk_map-returns-in_err-count-clause-looked g t c = as_refusal _ _ _ _ c.from_residual.ensures.1 c.in_err-count.ensures.looked

pub walk_list-returns-in_err-walk_items-clause-looked : goal.walk_list-returns-in_err-walk_items-clause-looked
walk_list-returns-in_err-walk_items-clause-looked g t c = as_refusal _ _ _ _ c.from_residual-in_err-walk_items.ensures.1 (looks_then c.in_ok-count.ensures.looked c.in_err-walk_items.ensures.looked)

pub walk_map-returns-in_err-walk_entries-clause-looked : goal.walk_map-returns-in_err-walk_entries-clause-looked
walk_map-returns-in_err-walk_entries-clause-looked g t c = as_refusal _ _ _ _ c.from_residual-in_err-walk_entries.ensures.1 (looks_then c.in_ok-count.ensures.looked c.in_err-walk_entries.ensures.looked)

pub walk_list-returns-clause-looked : goal.walk_list-returns-clause-looked
walk_list-returns-clause-looked g t c = looks_stepped _ refl (looks_more c.in_ok-count.ensures.looked c.in_ok-walk_items.ensures.looked) c.step_out.ensures

pub walk_map-returns-clause-looked : goal.walk_map-returns-clause-looked
walk_map-returns-clause-looked g t c = looks_stepped _ refl (looks_more c.in_ok-count.ensures.looked c.in_ok-walk_entries.ensures.looked) c.step_out.ensures

pub walk_items-loop-index-init : goal.walk_items-loop-index-init
walk_items-loop-index-init g t c = record { read = ([], no_item_read _ _ _ [] (omega arith) refl, found_none g.S.LinkSink.sink c.args.links.now); looked = nothing_looked _ }

pub walk_items-returns-in_err-walk_any-clause-looked : goal.walk_items-returns-in_err-walk_any-clause-looked
walk_items-returns-in_err-walk_any-clause-looked g t c = as_refusal _ _ _ _ c.from_residual.ensures.1 (some_then c.loop-index.invariant.looked c.in_err-walk_any.ensures.looked)

pub walk_items-returns-in_err-walk_any-clause-items : goal.walk_items-returns-in_err-walk_any-clause-items
walk_items-returns-in_err-walk_any-clause-items g t c =
    let s = c.loop-index.invariant.read in
    as_refusal _ _ _ _ c.from_residual.ensures.1 record { refuses = next_refused _ s.0 _ (omega arith) s.1 (lacks_before s.1.takes.same (rest_of_items s.0 s.1.takes)) c.in_err-walk_any.ensures.item.refuses; handed = handed_in_items g.S.LinkSink.sink s.0 _ _ _ s.1.takes s.2 c.in_err-walk_any.ensures.item.handed }

pub walk_items-loop-index-preserved : goal.walk_items-loop-index-preserved
walk_items-loop-index-preserved g t c =
    let s = c.loop-index.invariant.read in
    let k = c.in_ok-walk_any.ensures.item in
    record { read = (s.0 ++ k.0 ∷ [], one_item_read s.0 (s.0 ++ k.0 ∷ []) refl (omega arith) s.1 k.1, item_found g.S.LinkSink.sink s.0 k.0 c.args.links.now c.loop-index.links c.walk_any.new.links s.2 k.2); looked = some_both c.loop-index.invariant.looked (some_taken c.in_ok-walk_any.ensures.looked) }

pub walk_items-returns-clause-items : goal.walk_items-returns-clause-items
walk_items-returns-clause-items g t c = let s = c.loop-index.invariant.read in let k = all_items_read s.0 (omega arith) s.1 in (s.0, k.0, k.1, s.2)

pub walk_entries-loop-index-init : goal.walk_entries-loop-index-init
walk_entries-loop-index-init g t c = record { read = (no_entries, maps.no_entry_read _ _ _ no_entries _ (omega arith) refl refl, found_none g.S.LinkSink.sink c.args.links.now); looked = nothing_looked _ }

pub walk_entries-returns-in_err-key-clause-looked : goal.walk_entries-returns-in_err-key-clause-looked
walk_entries-returns-in_err-key-clause-looked g t c = as_refusal _ _ _ _ c.from_residual.ensures.1 (some_then c.loop-index.invariant.looked c.in_err-key.ensures.looked)

pub walk_entries-returns-in_err-walk_any-clause-looked : goal.walk_entries-returns-in_err-walk_any-clause-looked
walk_entries-returns-in_err-walk_any-clause-looked g t c =
    as_refusal _ _ _ _ c.from_residual-in_err-walk_any.ensures.1 (some_then (some_both c.loop-index.invariant.looked (some_taken c.in_ok-key.ensures.looked)) c.in_err-walk_any.ensures.looked)

pub walk_entries-returns-in_err-key-clause-entries : goal.walk_entries-returns-in_err-key-clause-entries
walk_entries-returns-in_err-key-clause-entries g t c =
    let s = c.loop-index.invariant.read in
    as_refusal _ _ _ _ c.from_residual.ensures.1 record { refuses = maps.next_key_refused _ _ (omega arith) s.1 (λ l. inl (sym s.1.takes.same.lends ∙ l)) c.in_err-key.ensures.key; handed = handed_in_entries g.S.LinkSink.sink s.0 _ _ _ s.1.takes s.2 (none_handed g.S.LinkSink.sink _ _) }

pub walk_entries-returns-in_err-walk_any-clause-entries : goal.walk_entries-returns-in_err-walk_any-clause-entries
walk_entries-returns-in_err-walk_any-clause-entries g t c =
    let s = c.loop-index.invariant.read in
    let key = text_taken _ c.in_ok-key.ensures.key.1 in
    as_refusal _ _ _ _ c.from_residual-in_err-walk_any.ensures.1 record { refuses = maps.next_value_refused _ _ _ (omega arith) s.1 c.in_ok-key.ensures.key.0 key (λ l. lacks_before s.1.takes.same (rest_of_entries s.0 s.1.takes) (lacks_before key.same (rest_of_key _ key) l)) c.in_err-walk_any.ensures.item.refuses; handed = handed_in_entries g.S.LinkSink.sink s.0 _ _ _ s.1.takes s.2 (handed_in_value g.S.LinkSink.sink _ _ _ key c.in_err-walk_any.ensures.item.handed) }

pub walk_entries-loop-index-preserved : goal.walk_entries-loop-index-preserved
walk_entries-loop-index-preserved g t c =
    let s = c.loop-index.invariant.read in
    let key = c.in_ok-key.ensures.key in
    let value = c.in_ok-walk_any.ensures.item in
    record {
      read = (_, maps.one_entry_read s.0 _ _ _ refl refl (omega arith) s.1 key.0 (text_taken _ key.1) value.1, entry_found g.S.LinkSink.sink s.0 _ value.0 c.args.links.now c.loop-index.links c.walk_any.new.links s.2 value.2);
      looked = some_both (some_both c.loop-index.invariant.looked (some_taken c.in_ok-key.ensures.looked)) (some_taken c.in_ok-walk_any.ensures.looked);
    }

pub walk_entries-returns-clause-entries : goal.walk_entries-returns-clause-entries
walk_entries-returns-clause-entries g t c = let s = c.loop-index.invariant.read in let k = maps.all_entries_read s.0 (omega arith) s.1 in (s.0, k.0, k.1, s.2)

pub walk_by_bytes-returns-in_err-spend_step-clause-looked : goal.walk_by_bytes-returns-in_err-spend_step-clause-looked
walk_by_bytes-returns-in_err-spend_step-clause-looked g t c = as_refusal _ _ _ _ c.from_residual.ensures.1 (same_looked (ap (λ (r : Reading). r.looked) c.in_err-spend_step.ensures.same))

pub walk_by_bytes-returns-in_err-walk_item-clause-looked : goal.walk_by_bytes-returns-in_err-walk_item-clause-looked
walk_by_bytes-returns-in_err-walk_item-clause-looked g t c = as_refusal _ _ _ _ c.from_residual-in_err-walk_item.ensures.1 (stepped_left _ c.in_ok-spend_step.ensures.is c.in_err-walk_item.ensures.looked)

pub walk_by_bytes-returns-clause-looked : goal.walk_by_bytes-returns-clause-looked
walk_by_bytes-returns-clause-looked g t c = looks_stepped _ c.in_ok-spend_step.ensures.is c.in_ok-walk_item.ensures.looked c.step_out.ensures

pub walk_item-returns-in_err-first-clause-looked : goal.walk_item-returns-in_err-first-clause-looked
walk_item-returns-in_err-first-clause-looked g t c = as_refusal _ _ _ _ c.from_residual.ensures.1 (once_left_more 3 (omega arith) c.in_err-first.ensures.looked)

pub walk_item-returns-then-is_indefinite-clause-looked : goal.walk_item-returns-then-is_indefinite-clause-looked
walk_item-returns-then-is_indefinite-clause-looked g t c = once_left_more 3 (omega arith) c.in_ok-first.ensures.looked

pub walk_item-returns-clause-looked : goal.walk_item-returns-clause-looked
walk_item-returns-clause-looked g t c = looks_after_peek 3 _ _ c.in_ok-first.ensures.looked c.in_ok-first.ensures.shown c.walk_of_major.ensures.looked

pub walk_any-returns-then-take_leaf-clause-item : goal.walk_any-returns-then-take_leaf-clause-item
walk_any-returns-then-take_leaf-clause-item g t c =
    let k = rw c.if-take_leaf.true at c.take_leaf.ensures.taken in
    (k.0, k.1, found_as g.S.LinkSink.sink _ _ _ _ (sym k.2) (found_none g.S.LinkSink.sink _))

pub walk_any-returns-clause-item : goal.walk_any-returns-clause-item
walk_any-returns-clause-item g t c =
    subst (λ old. WalksItem g.S.LinkSink.sink old c.args.links.now c.walk_by_bytes.result (g.I.Read.reading c.walk_by_bytes.new.input) c.walk_by_bytes.new.links) (rw c.if-take_leaf.false at c.take_leaf.ensures.taken) c.walk_by_bytes.ensures.item

pub walk_any-returns-clause-looked : goal.walk_any-returns-clause-looked
walk_any-returns-clause-looked g t c =
    subst (λ old. Looks 3 old c.walk_by_bytes.result (g.I.Read.reading c.walk_by_bytes.new.input)) (rw c.if-take_leaf.false at c.take_leaf.ensures.taken) c.walk_by_bytes.ensures.looked
