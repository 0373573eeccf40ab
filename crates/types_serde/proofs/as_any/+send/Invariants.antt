use Rattle.std.proofs.Common.{take, string_bytes}
use Rattle.serde.specs.Event.{WritesEach, WritesEntry, Logs, text}
use Rattle.serde.proofs.Events.{WritesUpTo}
use Rattle.ipld_tree.specs.Ipld.{tree_of}
use Rattle.types_serde.specs.Making.{WritesEvents}
use Rattle.types_serde.proofs.as_any.+send.Given as goal

abbrev pub invariant-send_items-loop-item : goal.invariant-send_items-loop-item
invariant-send_items-loop-item g l =
    WritesEach (λ x. WritesEvents (tree_of x)) (take l.item-index l.item-items) (g.S.Serializer.written l.initial.out) (g.S.Serializer.written l.out)

abbrev pub invariant-send_entries-loop-key : goal.invariant-send_entries-loop-key
invariant-send_entries-loop-key g l =
    WritesUpTo (WritesEntry (λ k old new. Logs old new (text (string_bytes k))) (λ v. WritesEvents (tree_of v))) l.entries.entries l.key-iterator (g.S.Serializer.written l.initial.out) (g.S.Serializer.written l.out)
