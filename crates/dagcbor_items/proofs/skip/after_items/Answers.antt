use Rattle.std.proofs.Common.{Bor, List, ℕ, length, ◌<◌, ◌^◌, arith, rules}
use Rattle.dagcbor_decode.proofs.Rows.{token_shorter}
use Rattle.dagcbor_items.proofs.Skipping.{none_skipped, no_head_found, no_string_found, too_many_found, one_skipped, all_skipped}
use Rattle.dagcbor_items.proofs.skip.after_items.Goals as goal

pub loop-more-init : goal.loop-more-init
loop-more-init c = none_skipped _ _

pub returns-in_err-major : goal.returns-in_err-major
returns-in_err-major c = rw c.from_residual.ensures (no_head_found (λ (s : Bor (List ℕ)). s.now) _ _ _ _ c.loop-more.invariant (omega arith) c.in_err-major.ensures)

pub returns-in_err-rest : goal.returns-in_err-rest
returns-in_err-rest c = rw c.from_residual-in_err-rest.ensures (no_string_found (λ (s : Bor (List ℕ)). s.now) _ _ _ _ _ _ _ c.loop-more.invariant (omega arith) c.in_ok-major.ensures c.in_err-rest.ensures.0 c.in_err-rest.ensures.1)

pub returns-in_err-parts_after : goal.returns-in_err-parts_after
returns-in_err-parts_after c =
    let short : length c.args.bytes.now < 2 ^ 64 = search rules in
    rw c.from_residual-in_err-parts_after.ensures (too_many_found (λ (s : Bor (List ℕ)). s.now) _ _ _ _ _ _ _ c.loop-more.invariant (omega arith) c.in_ok-major.ensures short (omega (arith, c.in_err-parts_after.ensures)))

pub returns-in_err-more : goal.returns-in_err-more
returns-in_err-more c =
    let short : length c.args.bytes.now < 2 ^ 64 = search rules in
    rw c.from_residual-in_err-more.ensures (too_many_found (λ (s : Bor (List ℕ)). s.now) _ _ _ _ _ _ _ c.loop-more.invariant (omega arith) c.in_ok-major.ensures short (omega (arith, c.in_err-more.ensures, c.in_ok-parts_after.ensures)))

pub loop-more-smaller : goal.loop-more-smaller
loop-more-smaller c = token_shorter _ _ _ _ _ c.in_ok-major.ensures c.in_ok-rest.ensures.1

pub loop-more-preserved : goal.loop-more-preserved
loop-more-preserved c = one_skipped _ _ _ _ _ _ _ _ _ c.loop-more.invariant (omega arith) c.in_ok-major.ensures c.in_ok-rest.ensures.0 c.in_ok-rest.ensures.1 (omega (arith, c.in_ok-more.ensures, c.in_ok-parts_after.ensures))

pub returns : goal.returns
returns c = all_skipped (λ (s : Bor (List ℕ)). s.now) c.loop-more.rest _ _ _ (omega arith) c.loop-more.invariant
