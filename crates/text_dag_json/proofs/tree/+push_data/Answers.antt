use Rattle.std.proofs.Common.{◌≡◌, ◌⊎◌, inl, inr, ℕ, List, Vec, Global, [], ◌∷◌, ◌++◌, true, false, ap, sym, ◌∙◌, codes}
use Rattle.text_dag_json.specs.DagJson.{dag_json, json_text, item_texts, list_text, bytes_text}
use Rattle.ipld_tree.specs.Tree.{items_of}
use Rattle.ipld_tree.specs.Ipld.{tree_of, trees_of}
use Rattle.text_dag_json.proofs.Listing.{json_Null, json_Bool, json_Integer, json_String, json_Bytes, json_List, json_Link, pushed, extended, list_out, entry_out, map_out}
use Rattle.text_dag_json.proofs.tree.+push_data.Goals as goal
use Rattle.text_dag_json.proofs.tree.+push_data.Goals.{push_map-then-not-is_first+in_ok-push-2, push_map-else-not-is_first}

pub push_data-returns-in-Null : goal.push_data-returns-in-Null
push_data-returns-in-Null t c = pushed (codes "null") _ c.args.out.now.items c.extend_from_slice.result c.extend_from_slice.new.self.items (json_Null c.args.value.now c.in-Null.is) (extended (codes "null") c.args.out.now.items c.extend_from_slice.result c.extend_from_slice.new.self.items c.extend_from_slice.ensures.items)

pub push_data-returns-in-Bool : goal.push_data-returns-in-Bool
push_data-returns-in-Bool t c = pushed _ _ _ c.push_boolean.result _ (json_Bool c.args.value.now c.in-Bool.b c.in-Bool.is) c.push_boolean.ensures

pub push_data-returns-in-Integer : goal.push_data-returns-in-Integer
push_data-returns-in-Integer t c = pushed _ _ _ c.push_integer.result _ (json_Integer c.args.value.now c.in-Integer.n c.in-Integer.is) c.push_integer.ensures

pub push_data-returns-in-String : goal.push_data-returns-in-String
push_data-returns-in-String t c = pushed _ _ _ c.push_text.result _ (json_String c.args.value.now c.in-String.text c.in-String.is ∙ ap json_text (sym c.as_bytes.ensures.value)) c.push_text.ensures

pub push_data-returns-in-Bytes : goal.push_data-returns-in-Bytes
push_data-returns-in-Bytes t c = pushed _ _ _ c.push_bytes.result _ (json_Bytes c.args.value.now c.in-Bytes.bytes c.in-Bytes.is ∙ ap bytes_text (sym c.deref.ensures.value)) c.push_bytes.ensures

pub push_data-returns-in-List : goal.push_data-returns-in-List
push_data-returns-in-List t c = pushed _ _ _ c.push_list.result _ (json_List c.args.value.now c.in-List.items c.in-List.is ∙ ap (λ xs. list_text (item_texts (items_of (trees_of xs)))) (sym c.deref-in-List.ensures.value)) c.push_list.ensures

pub push_data-returns-in-Link : goal.push_data-returns-in-Link
push_data-returns-in-Link t c = pushed _ _ _ c.push_link.result _ (json_Link c.args.value.now c.in-Link.cid c.in-Link.is) c.push_link.ensures

pub push_list-returns : goal.push_list-returns
push_list-returns t c = list_out c.args.out.now.items c.loop-item.out.items _ c.args.items.now c.loop-item.item-index c.loop-item.is_first c.loop-item.invariant c.loop-item-test.false c.in_ok-push-3.ensures.items

pub push_map-loop-key-preserved : goal.push_map-loop-key-preserved
push_map-loop-key-preserved t c =
    let h = c.loop-key.invariant in
    let comma : ((c.loop-key.is_first ≡ true) × (c.if-not-is_first.out.items ≡ c.loop-key.out.items)) ⊎ ((c.loop-key.is_first ≡ false) × (c.if-not-is_first.out.items ≡ c.loop-key.out.items ++ 44 ∷ [])) = elim c.if-not-is_first.branch [
      | push_map-then-not-is_first+in_ok-push-2 w ↦ inr (w.if-not-is_first.true, ap (λ (v : Vec ℕ Global). v.items) w.out-is ∙ w.in_ok-push-2.ensures.items)
      | push_map-else-not-is_first w ↦ inl (w.if-not-is_first.false, ap (λ (v : Vec ℕ Global). v.items) w.out-is)
    ] in
    entry_out (c.args.out.now.items ++ 123 ∷ []) c.loop-key.out.items c.if-not-is_first.out.items c.push_data.new.out.items c.into_iter-key-iterator.result h.0 c.loop-key.key-iterator c.next.new.self c.loop-key.is_first (c.in-Some.key.now, c.in-Some.value.now) h.1 c.in-Some.ensures.steps h.2 comma
    (c.in_ok-push_data.ensures ∙ ap (λ (x : List ℕ). x ++ dag_json (tree_of c.in-Some.value.now)) (c.in_ok-push-3.ensures.items ∙ ap (λ (x : List ℕ). x ++ 58 ∷ []) (c.in_ok-push_text.ensures ∙ ap (λ (x : List ℕ). c.if-not-is_first.out.items ++ json_text x) c.as_bytes.ensures.value)))

pub push_map-returns : goal.push_map-returns
push_map-returns t c =
    let h = c.loop-key.invariant in
    map_out c.args.out.now.items c.loop-key.out.items _ c.args.entries.now.entries _ h.0 _ c.loop-key.is_first h.1 h.2 c.in-None.ensures.steps.0 (c.into_iter-key-iterator.ensures.into_iter_gives ∙ c.iter-key-items.ensures.rest) c.iter-key-items.ensures.ordered c.in_ok-push-4.ensures.items
