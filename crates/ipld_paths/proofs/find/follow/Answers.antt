use Rattle.std.proofs.Common.{Bor, List, ℕ, rules}
use Rattle.ipld_paths.proofs.Ends.{walk_stopped, walk_goes_on, walk_over, ends_further}
use Rattle.ipld_paths.proofs.find.follow.Goals as goal

pub returns-in_default-part_at-clause-led : goal.returns-in_default-part_at-clause-led
returns-in_default-part_at-clause-led c = walk_stopped (λ (s : Bor (List ℕ)). s.now) c.args.bytes.now c.loop-segment.at.now c.in-Some.segment.now _ _ _ c.loop-segment.invariant.1 c.in-Some.ensures.first c.in_default-part_at.ensures.found

pub loop-segment-preserved : goal.loop-segment-preserved
loop-segment-preserved c = (
  search rules,
  walk_goes_on (λ (s : Bor (List ℕ)). s.now) c.in-Some-part_at.part c.args.bytes.now c.loop-segment.at.now c.in-Some.segment.now _ _ _ c.loop-segment.invariant.1 c.in-Some.ensures.first c.in-Some-part_at.ensures.found,
  ends_further c.args.bytes.now c.loop-segment.at.now c.in-Some-part_at.part.now c.loop-segment.invariant.2 c.in-Some-part_at.ensures.within,
  ends_further c.args.path.now c.loop-segment.left.now c.in-Some.more.now c.loop-segment.invariant.3 c.in-Some.ensures.following,
)

pub returns-clause-led : goal.returns-clause-led
returns-clause-led c = walk_over c.args.bytes.now c.loop-segment.at.now _ _ c.loop-segment.invariant.1 c.in_default.ensures.first
