use Rattle.std.proofs.Common.{Bor, List, ℕ, map}
use Rattle.std.proofs.lemmas.List.{at_drop_more, at_drop_all}
use Rattle.ipld_paths.proofs.Ends.{along_all, along_nowhere, walk_goes_on, ends_further}
use Rattle.ipld_paths.proofs.find.part_along.Goals as goal

pub returns-in_err-at-clause-found : goal.returns-in_err-at-clause-found
returns-in_err-at-clause-found c = rw c.from_residual.ensures (along_nowhere (λ (s : Bor (List ℕ)). s.now) c.args.bytes.now c.loop-segment.at.now _ _ _ _ c.loop-segment.invariant.0 (at_drop_more (map (λ (s : Bor (List ℕ)). s.now)) c.args.segments.now c.loop-segment.segment-index _ c.loop-segment-test.true) c.in_err-at.ensures.found)

pub loop-segment-preserved : goal.loop-segment-preserved
loop-segment-preserved c = (
  walk_goes_on (λ (s : Bor (List ℕ)). s.now) c.in_ok-at.at c.args.bytes.now c.loop-segment.at.now _ _ _ _ c.loop-segment.invariant.0 (at_drop_more (map (λ (s : Bor (List ℕ)). s.now)) c.args.segments.now c.loop-segment.segment-index _ c.loop-segment-test.true) c.in_ok-at.ensures.found,
  ends_further c.args.bytes.now c.loop-segment.at.now c.in_ok-at.at.now c.loop-segment.invariant.1 c.in_ok-at.ensures.within,
)

pub returns-clause-found : goal.returns-clause-found
returns-clause-found c = along_all (λ (s : Bor (List ℕ)). s.now) c.loop-segment.at c.args.bytes.now _ _ c.loop-segment.invariant.0 (at_drop_all (map (λ (s : Bor (List ℕ)). s.now)) c.args.segments.now c.loop-segment.segment-index c.loop-segment-test.false)
