use Rattle.std.proofs.Common.{ℕ, List, length, ◌∙◌}
use Rattle.std.proofs.lemmas.List.Sorted.{All-permutation, IsPermutation-map, IsPermutation-trans, length_permutation}
use Rattle.dagcbor_write.specs.declared.collect.gathered.Span.{Span}
use Rattle.dagcbor_write.specs.Spans.{IsWithin, entry_at}
use Rattle.types_serde.proofs.entries.sort.Goals as goal

pub returns-then-sort_few-clause-order : goal.returns-then-sort_few-clause-order
returns-then-sort_few-clause-order c h =
    let bytes : List ℕ = c.args.bytes.now in
    let spans : List Span = c.sort_few.new.spans in
    let within = All-permutation (IsWithin (length bytes)) c.args.spans.now spans c.sort_few.ensures.moved h in
    let order = c.sort_few.ensures.order c.if-sort_few.true within in
    (IsPermutation-map (entry_at bytes) c.args.spans.now spans c.sort_few.ensures.moved, order.0, order.1)

pub returns-then-sort_few-clause-within : goal.returns-then-sort_few-clause-within
returns-then-sort_few-clause-within c h = All-permutation (IsWithin (length c.args.bytes.now)) _ _ c.sort_few.ensures.moved h

pub returns-then-sort_few-clause-count : goal.returns-then-sort_few-clause-count
returns-then-sort_few-clause-count c = length_permutation _ _ c.sort_few.ensures.moved

pub returns-clause-order : goal.returns-clause-order
returns-clause-order c h =
    let bytes : List ℕ = c.args.bytes.now in
    let spans : List Span = c.sort_few.new.spans in
    let within = All-permutation (IsWithin (length bytes)) c.args.spans.now spans c.sort_few.ensures.moved h in
    let moved = IsPermutation-map (entry_at bytes) c.args.spans.now spans c.sort_few.ensures.moved in
    let put = c.put_in_order.ensures.order within in
    (IsPermutation-trans _ _ _ moved put.0, put.1, put.2)

pub returns-clause-within : goal.returns-clause-within
returns-clause-within c h = c.put_in_order.ensures.within (All-permutation (IsWithin (length c.args.bytes.now)) _ _ c.sort_few.ensures.moved h)

pub returns-clause-count : goal.returns-clause-count
returns-clause-count c = c.put_in_order.ensures.count ∙ length_permutation _ _ c.sort_few.ensures.moved
