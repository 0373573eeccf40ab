use Rattle.std.proofs.Common.{◌∙◌, Some, None, arith, rules}
use Rattle.std.proofs.lemmas.Str.Pattern.{split_parts}
use Rattle.ipld_paths.proofs.Cutting.{segment_cut, last_segment, not_empty, empty, slash_dropped, after_slash, after_all}
use Rattle.ipld_paths.proofs.segments.next_segment.Goals as goal

pub loop-segment-preserved : goal.loop-segment-preserved
loop-segment-preserved c =
    let parts = split_parts 47 c.loop-segment.left.now (Some (c.in-Some.segment, c.in-Some.more)) c.in-Some.ensures.cases (omega arith) in (
      search rules,
      c.loop-segment.invariant.1 ∙ slash_dropped c.loop-segment.left.now _ _ parts.0 parts.1 (empty _ _ c.is_empty.ensures c.if-not-is_empty.false),
      after_slash c.args.path.now c.loop-segment.left.now _ _ c.loop-segment.invariant.2 parts.0,
    )

pub returns-then-not-is_empty-clause-first : goal.returns-then-not-is_empty-clause-first
returns-then-not-is_empty-clause-first c =
    let parts = split_parts 47 c.loop-segment.left.now (Some (c.in-Some.segment, c.in-Some.more)) c.in-Some.ensures.cases (omega arith) in
    c.loop-segment.invariant.1 ∙ segment_cut c.loop-segment.left.now _ _ parts.0 parts.1 (not_empty _ _ c.is_empty.ensures c.if-not-is_empty.true)

pub returns-then-not-is_empty-clause-following : goal.returns-then-not-is_empty-clause-following
returns-then-not-is_empty-clause-following c =
    let parts = split_parts 47 c.loop-segment.left.now (Some (c.in-Some.segment, c.in-Some.more)) c.in-Some.ensures.cases (omega arith) in
    after_slash c.args.path.now c.loop-segment.left.now _ _ c.loop-segment.invariant.2 parts.0

pub returns-else-is_empty-clause-first : goal.returns-else-is_empty-clause-first
returns-else-is_empty-clause-first c =
    let parts = split_parts 47 c.loop-segment.left.now None c.in_default.ensures.cases (omega arith) in
    c.loop-segment.invariant.1 ∙ last_segment c.loop-segment.left.now parts (not_empty _ _ c.is_empty-2.ensures c.if-is_empty.false)

pub returns-else-is_empty-clause-following : goal.returns-else-is_empty-clause-following
returns-else-is_empty-clause-following c = after_all c.args.path.now
