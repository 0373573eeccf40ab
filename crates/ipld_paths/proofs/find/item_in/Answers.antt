use Rattle.std.proofs.Common.{Bor, List, ℕ, length, length-append, refl, ap, arith, None, Some}
use Rattle.dagcbor_items.proofs.Skipping.{one_found, ends_within}
use Rattle.ipld_paths.proofs.Cutting.{no_first}
use Rattle.ipld_paths.proofs.Ends.{no_first_item, item_told}
use Rattle.ipld_paths.proofs.find.item_in.Goals as goal

pub returns-in_err-rest : goal.returns-in_err-rest
returns-in_err-rest c = λ t k. absurd (one_found (λ (s : Bor (List ℕ)). s.now) c.args.at.now k.0 t None c.in_err-rest.ensures k.1)

pub returns-in_err-first : goal.returns-in_err-first
returns-in_err-first c = λ t k. absurd (no_first_item c.args.at.now t (no_first c.args.at.now c.in_err-first.ensures.value) k)

pub slice_bounds-result-count : goal.slice_bounds-result-count
slice_bounds-result-count c =
    let ends = ends_within c.args.at.now c.in_ok-rest.rest.now 1 c.in_ok-rest.ensures in
    omega (arith, ap length ends.1, length-append ends.0 c.in_ok-rest.rest.now)

pub returns : goal.returns
returns c = λ t k. item_told c.args.block.now c.args.at.now c.in_ok-rest.rest.now c.in_ok-first.field-0.now _ t c.requires (λ u r f. one_found (λ s. s) c.args.at.now r u (Some c.in_ok-rest.rest.now) c.in_ok-rest.ensures f) c.in_ok-first.ensures.value c.kind_at.ensures refl refl k
