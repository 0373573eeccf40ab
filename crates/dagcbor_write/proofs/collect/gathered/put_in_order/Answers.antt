use Rattle.std.proofs.Common.{ℕ, List, rules, length, slice_range}
use Rattle.std.proofs.lemmas.Cmp.{nat_list_cmp_total}
use Rattle.std.proofs.lemmas.Fn.{always_returns_same}
use Rattle.std.proofs.lemmas.List.Sorted.{All-permutation, IsPermutation-map, ranks_by}
use Rattle.dagcbor_write.specs.declared.collect.gathered.Span.{Span}
use Rattle.dagcbor_write.specs.Spans.{IsWithin, entry_at}
use Rattle.dagcbor_write.proofs.Spans.{entries_sorted}
use Rattle.dagcbor_write.proofs.collect.gathered.put_in_order.Goals as goal

pub returns-clause-within : goal.returns-clause-within
returns-clause-within c h = All-permutation (IsWithin (length c.args.bytes.now)) _ _ c.sort_unstable_by.ensures.permutation h

pub returns-clause-order : goal.returns-clause-order
returns-clause-order c h =
    let bytes : List ℕ = c.args.bytes.now in
    let spans : List Span = c.sort_unstable_by.new.self in
    let by-bytes = ranks_by nat_list_cmp_total (λ (s : Span). slice_range bytes s.start s.end) in
    let sorted = c.sort_unstable_by.ensures.sorted _ by-bytes (always_returns_same _ _ _ (λ a r f k. search rules)) in
    let within = All-permutation (IsWithin (length bytes)) c.args.spans.now spans c.sort_unstable_by.ensures.permutation h in
    let moved = IsPermutation-map (entry_at bytes) c.args.spans.now spans c.sort_unstable_by.ensures.permutation in
    (moved, entries_sorted (length bytes) bytes spans within sorted, c.keys_differ.ensures)
