use Rattle.std.proofs.Common.{rules, ℕ, ◌≡◌, sym, ◌∙◌, drop, length, subst, length-drop}
use Rattle.types_serde.specs.Holds.{PutsEach}
use Rattle.types_serde.specs.declared.sink.Sink.{Sink}
use Rattle.types_serde.proofs.Closing.{kept_by, rest_from}
use Rattle.types_serde.proofs.sink.Sink.put_entries.Goals as goal
use Rattle.types_serde.proofs.sink.Sink.put_entries.Goals.{then-not-are_in_order+in_ok-sort_entries, else-not-are_in_order}

pub returns-clause-entries : goal.returns-clause-entries
returns-clause-entries c =
    let b = c.args.self.now.bytes.items in
    let ss = drop c.args.first c.args.self.now.spans.items in
    let count : length ss ≡ c.in-Some.count = length-drop c.args.first c.args.self.now.spans.items ∙ search rules in
    let P : Sink → ℕ → Type 0 = λ k n. PutsEach c.args.place b ss k.bytes.items n in
    subst (P c.if-not-are_in_order.self) count (elim c.if-not-are_in_order.branch [
      | then-not-are_in_order+in_ok-sort_entries w ↦ subst (λ k. P k (length ss)) (sym w.self-is) w.in_ok-sort_entries.ensures.entries
      | else-not-are_in_order w ↦ subst (λ k. P k (length ss)) (sym w.self-is) (kept_by c.args.place b c.deref.result.now ss _ c.deref.ensures.value (rest_from c.args.first c.deref-2.result.now c.args.self.now.spans.items c.deref-2.ensures) (c.are_in_order.ensures (search rules)))
    ])
