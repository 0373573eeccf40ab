use Rattle.std.proofs.Common.{rules, ◌≡◌, [], ap, ap₂, ◌∙◌, ◌++◌, ◌+◌, take, drop, flat_map}
use Rattle.types_serde.proofs.Closing.{rest_from, sorted_by}
use Rattle.types_serde.proofs.Opening.{ok_then}
use Rattle.types_serde.proofs.sink.Sink.sort_entries.Goals as goal
use Rattle.dagcbor_write.specs.Spans.{whole_at}

pub returns-clause-entries : goal.returns-clause-entries
returns-clause-entries c =
    let b = c.args.self.now.bytes.items in
    let sorted = c.sort.new.spans in
    let empty : c.reserve.new.self.items ≡ [] = search rules in
    ok_then c.args.self.now c.args.self.now c.replace_after.result (λ is. sorted_by c.args.place b c.replace_after.new.out.items c.deref.result.now (drop c.args.first c.args.self.now.spans.items) _ sorted c.sort.result c.deref.ensures.value (rest_from c.args.first c.deref_mut.result.now c.args.self.now.spans.items c.deref_mut.ensures.value) (search rules) c.sort.ensures.order c.sort.ensures.within c.sort.ensures.count
    (is ∙ ap (λ v. take (c.args.place + 1) b ++ v) (c.deref-3.ensures.value ∙ c.in_ok-push_entries.ensures.appended ∙ ap₂ (λ x y. x ++ flat_map (whole_at y) sorted) empty c.deref-2.ensures.value))) c.replace_after.ensures.replaced
