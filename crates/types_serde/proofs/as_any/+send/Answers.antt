use Rattle.std.proofs.Common.{◌≡◌, length, Some, subst, arith, rules, string_bytes, OnOk}
use Rattle.std.proofs.lemmas.Grind.{common_steps}
use Rattle.std.proofs.lemmas.Result.{on_ok_weaker}
use Rattle.serde.specs.Event.{Logs, map_begins, text, octets, signed, WritesEntry}
use Rattle.serde.proofs.Events.{WritesEach-more, WritesSeq-ends, WritesUpTo-more, WritesUpTo-all}
use Rattle.ipld_tree.specs.Ipld.{tree_of}
use Rattle.types_serde.specs.Making.{WritesEvents}
use Rattle.types_serde.proofs.Making.{sends_null, sends_boolean, sends_integer, sends_text, sends_bytes, sends_link, sends_list, sends_map, null_kind, bool_kind, integer_kind, text_kind, bytes_kind, link_kind, map_is, of_kind}
use Rattle.types_serde.proofs.as_any.+send.Goals as goal

pub send_items-loop-item-preserved : goal.send_items-loop-item-preserved
send_items-loop-item-preserved g t c = WritesEach-more (λ x. WritesEvents (tree_of x)) _ _ _ _ _ _ c.loop-item-test.true c.item-item.is c.loop-item.invariant c.in_ok-serialize.ensures

pub send_items-returns : goal.send_items-returns
send_items-returns g t c = on_ok_weaker c.end_seq.result (λ ended. sends_list tree_of _ _ _ (WritesSeq-ends (λ x. WritesEvents (tree_of x)) _ _ _ c.len.result _ _ _ _ c.deref-item-items.ensures.value (search rules) c.loop-item-test.false c.in_ok-begin_seq.ensures c.loop-item.invariant ended)) c.end_seq.ensures

pub send_entries-loop-key-preserved : goal.send_entries-loop-key-preserved
send_entries-loop-key-preserved g t c =
    let key = subst (λ s. Logs (g.S.Serializer.written c.begin_key.new.self) (g.S.Serializer.written c.str.new.self) (text s)) c.as_str.ensures.value c.in_ok-str.ensures in
    WritesUpTo-more (WritesEntry (λ k old new. Logs old new (text (string_bytes k))) (λ v. WritesEvents (tree_of v))) _ _ _ (c.in-Some.key.now, c.in-Some.value.now) _ _ _ c.loop-key.invariant c.in-Some.ensures.steps (_, _, _, c.in_ok-begin_key.ensures, key, c.in_ok-end_key.ensures, c.in_ok-serialize.ensures)

pub send_entries-returns : goal.send_entries-returns
send_entries-returns g t c =
    let len : c.len.result ≡ length c.args.entries.now.entries = search rules in
    let begun = subst (λ n. Logs (g.S.Serializer.written c.args.out.now) (g.S.Serializer.written c.begin_map.new.self) (map_begins (Some n))) len c.in_ok-begin_map.ensures in
    let each = WritesUpTo-all (WritesEntry (λ k old new. Logs old new (text (string_bytes k))) (λ v. WritesEvents (tree_of v))) _ _ _ _ c.loop-key.invariant (grind (arith, common_steps, c.in-None.ensures.steps.0)) in
    on_ok_weaker c.end_map.result (λ ended. sends_map c.args.entries.now _ _ c.len.ensures.ordered (_, _, begun, each, ended)) c.end_map.ensures

pub serialize-returns-in-Null : goal.serialize-returns-in-Null
serialize-returns-in-Null g t c = of_kind c.unit.result _ _ _ _ _ (null_kind c.args.value.now c.in-Null.is) (sends_null _ _) c.unit.ensures

pub serialize-returns-in-Bool : goal.serialize-returns-in-Bool
serialize-returns-in-Bool g t c = of_kind c.bool.result _ _ _ _ _ (bool_kind c.args.value.now c.in-Bool.b c.in-Bool.is) (sends_boolean c.in-Bool.b _ _) c.bool.ensures

pub serialize-returns-in-Integer : goal.serialize-returns-in-Integer
serialize-returns-in-Integer g t c =
    let sent : OnOk c.i128.result (Logs (g.S.Serializer.written c.args.out.now) (g.S.Serializer.written c.i128.new.self) (signed c.in-Integer.n)) = search rules in
    of_kind c.i128.result _ _ _ _ _ (integer_kind c.args.value.now c.in-Integer.n c.in-Integer.is) (sends_integer c.in-Integer.n _ _) sent

pub serialize-returns-in-String : goal.serialize-returns-in-String
serialize-returns-in-String g t c = of_kind c.str.result _ _ _ _ _ (text_kind c.args.value.now c.in-String.text c.in-String.is) (λ s. sends_text _ _ _ (subst (λ v. Logs (g.S.Serializer.written c.args.out.now) (g.S.Serializer.written c.str.new.self) (text v)) c.as_str.ensures.value s)) c.str.ensures

pub serialize-returns-in-Bytes : goal.serialize-returns-in-Bytes
serialize-returns-in-Bytes g t c = of_kind c.bytes.result _ _ _ _ _ (bytes_kind c.args.value.now c.in-Bytes.bytes c.in-Bytes.is) (λ s. sends_bytes _ _ _ (subst (λ v. Logs (g.S.Serializer.written c.args.out.now) (g.S.Serializer.written c.bytes.new.self) (octets v)) c.as_slice.ensures.value s)) c.bytes.ensures

pub serialize-returns-in-Link : goal.serialize-returns-in-Link
serialize-returns-in-Link g t c = of_kind c.serialize.result _ _ _ _ _ (link_kind c.args.value.now c.in-Link.cid c.in-Link.is) (sends_link _ _ _) c.serialize.ensures

pub serialize-returns-in-Map : goal.serialize-returns-in-Map
serialize-returns-in-Map g t c = of_kind c.send_entries.result _ _ _ _ _ (map_is c.args.value.now c.in-Map.entries c.in-Map.is) (λ s. (s.0, s.1, s.2)) c.send_entries.ensures
