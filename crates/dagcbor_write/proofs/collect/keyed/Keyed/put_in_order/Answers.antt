use Rattle.std.proofs.Common.{ℕ, List, rules, length, slice_range}
use Rattle.std.proofs.lemmas.Cmp.{nat_list_cmp_total}
use Rattle.std.proofs.lemmas.Fn.{always_returns_same}
use Rattle.std.proofs.lemmas.List.Sorted.{All-permutation, IsPermutation-map, ranks_by}
use Rattle.dagcbor_write.specs.declared.collect.keyed.KeySpan.{KeySpan}
use Rattle.dagcbor_write.specs.Spans.{EndsWithin, keyed_at}
use Rattle.dagcbor_write.proofs.Spans.{keyed_sorted}
use Rattle.dagcbor_write.proofs.collect.keyed.Keyed.put_in_order.Goals as goal

pub invariant_of-self : goal.invariant_of-self
invariant_of-self g c = All-permutation (EndsWithin (length c.self.inside.keys)) _ _ c.sort_unstable_by.ensures.permutation c.self.invariant

pub returns : goal.returns
returns g c =
    let bytes : List ℕ = c.self.inside.keys in
    let spans : List (KeySpan g.row.V.Denot) = c.sort_unstable_by.new.self.items in
    let by-bytes = ranks_by nat_list_cmp_total (λ (s : KeySpan g.row.V.Denot). slice_range bytes s.start s.end) in
    let sorted = c.sort_unstable_by.ensures.sorted _ by-bytes (always_returns_same _ _ _ (λ a r f k. search rules)) in
    let moved = IsPermutation-map (keyed_at bytes) c.self.inside.spans.items spans c.sort_unstable_by.ensures.permutation in
    (rw (← c.self.view_is) moved, keyed_sorted bytes spans sorted, c.keys_differ.ensures)
