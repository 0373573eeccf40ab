use Rattle.std.proofs.Common.{Bor, List, ℕ, arith}
use Rattle.ipld_paths.proofs.ByHeads.{no_head, no_index, list_part, map_part, no_parts, after_head_some}
use Rattle.ipld_paths.proofs.parts.part_at.Goals as goal

pub returns-in_err-major-clause-found : goal.returns-in_err-major-clause-found
returns-in_err-major-clause-found c = rw c.from_residual.ensures (no_head (λ (s : Bor (List ℕ)). s.now) c.args.segment.now c.args.bytes.now c.in_err-major.ensures)

pub returns-in_err-index_of-in-4-clause-found : goal.returns-in_err-index_of-in-4-clause-found
returns-in_err-index_of-in-4-clause-found c =
    rw c.from_residual-in_err-index_of-in-4.ensures (no_index (λ (s : Bor (List ℕ)). s.now) c.args.segment.now c.args.bytes.now c.in_ok-major.following.now _ (rw c.in-4.is at c.in_ok-major.ensures) c.in_err-index_of-in-4.ensures)

pub returns-in_ok-index_of-in-4-clause-found : goal.returns-in_ok-index_of-in-4-clause-found
returns-in_ok-index_of-in-4-clause-found c =
    list_part (λ (s : Bor (List ℕ)). s.now) c.args.segment.now c.args.bytes.now c.in_ok-major.following.now _ _ c.item_at.result (rw c.in-4.is at c.in_ok-major.ensures) (omega arith) c.in_ok-index_of-in-4.ensures c.item_at.ensures.found

pub returns-in_ok-index_of-in-4-clause-within : goal.returns-in_ok-index_of-in-4-clause-within
returns-in_ok-index_of-in-4-clause-within c = after_head_some (λ (s : Bor (List ℕ)). s.now) _ _ c.args.bytes.now c.in_ok-major.following.now c.item_at.result c.in_ok-major.ensures c.item_at.ensures.within

pub returns-in-5-clause-found : goal.returns-in-5-clause-found
returns-in-5-clause-found c =
    map_part (λ (s : Bor (List ℕ)). s.now) c.args.segment.now c.args.bytes.now c.in_ok-major.following.now _ c.value_of.result (rw c.in-5.is at c.in_ok-major.ensures) (rw c.as_bytes.ensures.value at c.value_of.ensures.found)

pub returns-in-5-clause-within : goal.returns-in-5-clause-within
returns-in-5-clause-within c = after_head_some (λ (s : Bor (List ℕ)). s.now) _ _ c.args.bytes.now c.in_ok-major.following.now c.value_of.result c.in_ok-major.ensures c.value_of.ensures.within

pub returns-in_default-clause-found : goal.returns-in_default-clause-found
returns-in_default-clause-found c = no_parts (λ (s : Bor (List ℕ)). s.now) c.args.segment.now c.args.bytes.now c.in_ok-major.following.now _ _ c.in_ok-major.ensures (omega arith) (omega arith)
