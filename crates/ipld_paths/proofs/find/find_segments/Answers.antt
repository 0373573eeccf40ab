use Rattle.std.proofs.Common.{Bor, List, ℕ}
use Rattle.ipld_paths.proofs.Ends.{item_along, none_along}
use Rattle.ipld_paths.proofs.find.find_segments.Goals as goal

pub returns-in-Some-clause-found : goal.returns-in-Some-clause-found
returns-in-Some-clause-found c = let k = c.in_ok-check_slice.ensures.kind in item_along (λ (s : Bor (List ℕ)). s.now) c.in-Some.at c.args.block.now _ c.item_in.result c.in-Some.ensures.found c.item_in.ensures k.0 k.1

pub returns-in-None-clause-found : goal.returns-in-None-clause-found
returns-in-None-clause-found c = let k = c.in_ok-check_slice.ensures.kind in none_along (λ (s : Bor (List ℕ)). s.now) c.args.block.now _ c.in-None.ensures.found k.0 k.1
