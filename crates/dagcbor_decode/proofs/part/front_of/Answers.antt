use Rattle.std.proofs.Common.{◌∙◌}
use Rattle.dagcbor_decode.proofs.Refusing.{list_front, map_front, leaf_front}
use Rattle.dagcbor_decode.proofs.part.front_of.Goals as goal

pub returns-then-major-eq4 : goal.returns-then-major-eq4
returns-then-major-eq4 c = c.count_of.ensures ∙ list_front c.args.steps c.in-Some.first.now c.args.bytes.now c.in-Some.more.now c.if-steps-eq0.false c.in-Some.ensures.cases.0 c.if-first-eq31.false c.if-major-eq4.true

pub returns-then-major-eq5 : goal.returns-then-major-eq5
returns-then-major-eq5 c = c.count_of-then-major-eq5.ensures ∙ map_front c.args.steps c.in-Some.first.now c.args.bytes.now c.in-Some.more.now c.if-steps-eq0.false c.in-Some.ensures.cases.0 c.if-first-eq31.false c.if-major-eq5.true

pub returns-else-major-eq5 : goal.returns-else-major-eq5
returns-else-major-eq5 c = c.leaf_of.ensures ∙ leaf_front c.args.steps c.in-Some.first.now c.args.bytes.now c.in-Some.more.now c.if-steps-eq0.false c.in-Some.ensures.cases.0 c.if-first-eq31.false c.if-major-eq4.false c.if-major-eq5.false
