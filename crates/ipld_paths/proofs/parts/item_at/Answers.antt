use Rattle.std.proofs.Common.{Bor, List, ℕ}
use Rattle.ipld_paths.proofs.ByHeads.{no_item_of, item_found, item_within}
use Rattle.ipld_paths.proofs.parts.item_at.Goals as goal

pub returns-then-index-count-clause-found : goal.returns-then-index-count-clause-found
returns-then-index-count-clause-found c = no_item_of (λ (s : Bor (List ℕ)). s.now) c.args.bytes.now _ _ c.if-index-count.true

pub returns-clause-found : goal.returns-clause-found
returns-clause-found c = item_found (λ (s : Bor (List ℕ)). s.now) c.args.bytes.now _ _ c.after_items.result c.if-index-count.false c.after_items.ensures

pub returns-clause-within : goal.returns-clause-within
returns-clause-within c = item_within (λ (s : Bor (List ℕ)). s.now) c.args.bytes.now _ c.after_items.result c.after_items.ensures
