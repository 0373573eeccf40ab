use Rattle.std.proofs.Common.{rules, of_calls}
use Rattle.std.proofs.lemmas.Fn.{always_returns_same}
use Rattle.std.specs.Ordering.{nat_cmp}
use Rattle.std.specs.Cmp.Lexicographic.{slice_cmp}
use Rattle.atproto_mst.proofs.Changing.{place_found}
use Rattle.atproto_mst.proofs.change.find_place.Goals as goal

pub returns-clause-place : goal.returns-clause-place
returns-clause-place c rise =
    let facts = c.binary_search_by.ensures in
    place_found c.args.key.now c.args.all.now c.binary_search_by.result facts.bound
    (facts.position (λ e. slice_cmp nat_cmp e.key.items c.args.key.now) (always_returns_same _ _ _ (λ a r f k. search (rules, of_calls)))) rise
