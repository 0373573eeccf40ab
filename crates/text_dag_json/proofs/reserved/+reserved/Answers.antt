use Rattle.std.proofs.Common.{◌∙◌, ap, sym, ◌||◌, Bool}
use Rattle.ipld_tree.specs.Ipld.{tree_of}
use Rattle.text_dag_json.proofs.Reservations.{pairs_reserved, entry_reserved, ordered_reserved, next_reserved}
use Rattle.text_dag_json.proofs.reserved.+reserved.Goals as goal

pub entries_reserved-returns-then-entry_reserved : goal.entries_reserved-returns-then-entry_reserved
entries_reserved-returns-then-entry_reserved t c =
    ap (λ (b : Bool). b || pairs_reserved c.next.new.self) (sym c.if-entry_reserved.true)
    ∙ next_reserved c.loop-key.key-iterator c.next.new.self (c.in-Some.key.now, c.in-Some.value.now) _ c.entry_reserved.result c.in-Some.ensures.steps c.loop-key.invariant (c.entry_reserved.ensures ∙ ap (λ x. entry_reserved x (tree_of c.in-Some.value.now)) c.as_str.ensures.value)
    ∙ ap pairs_reserved (c.into_iter-key-iterator.ensures.into_iter_gives ∙ c.iter-key-items.ensures.rest) ∙ sym (ordered_reserved c.args.entries.now.entries)

pub entries_reserved-loop-key-preserved : goal.entries_reserved-loop-key-preserved
entries_reserved-loop-key-preserved t c =
    ap (λ (b : Bool). b || pairs_reserved c.next.new.self) (sym c.if-entry_reserved.false)
    ∙ next_reserved c.loop-key.key-iterator c.next.new.self (c.in-Some.key.now, c.in-Some.value.now) _ c.entry_reserved.result c.in-Some.ensures.steps c.loop-key.invariant (c.entry_reserved.ensures ∙ ap (λ x. entry_reserved x (tree_of c.in-Some.value.now)) c.as_str.ensures.value)

pub entries_reserved-returns : goal.entries_reserved-returns
entries_reserved-returns t c = ap pairs_reserved (sym c.in-None.ensures.steps.0) ∙ c.loop-key.invariant ∙ ap pairs_reserved (c.into_iter-key-iterator.ensures.into_iter_gives ∙ c.iter-key-items.ensures.rest) ∙ sym (ordered_reserved c.args.entries.now.entries)
