use Rattle.std.proofs.Common.{rules, ◌≡◌, ◌<◌, length}
use Rattle.program_events.specs.Seen.{seen_in}
use Rattle.program_events.proofs.Keeping.{seen_none}
use Rattle.program_events.proofs.Steps.{frame_shorter, none_read, one_read, all_read, end_read}
use Rattle.program_events.proofs.stream.events_said.Goals as goal

pub loop-rest-init : goal.loop-rest-init
loop-rest-init c = none_read c.args.bytes.now (seen_in c.new-seen.result) c.new.result.items c.new-2.result.items (seen_none c.new-seen.result c.new-seen.ensures.empty) c.new.ensures.items c.new-2.ensures.items

pub returns-in_default : goal.returns-in_default
returns-in_default c =
    let some : 0 < length c.loop-rest.rest.now = search rules in
    end_read c.args.bytes.now c.loop-rest.rest.now c.loop-rest.at.number c.loop-rest.at.byte (seen_in c.loop-rest.seen) _ _ _ _ _ _ _ _ _ c.loop-rest.invariant some c.in_default.ensures c.in_ok-end.ensures
    c.in_ok-append_answer.ensures.0 c.in_ok-append_answer.ensures.1 c.in_ok-append_answer.ensures.2

pub loop-rest-smaller : goal.loop-rest-smaller
loop-rest-smaller c = frame_shorter c.loop-rest.rest.now c.in-Some.parts.header.now c.in-Some.parts.body.now c.in-Some.parts.rest.now c.in-Some.ensures

pub loop-rest-preserved : goal.loop-rest-preserved
loop-rest-preserved c =
    one_read c.args.bytes.now c.loop-rest.rest.now c.in-Some.parts.header.now c.in-Some.parts.body.now c.in-Some.parts.rest.now c.loop-rest.at.number c.loop-rest.at.byte (seen_in c.loop-rest.seen) (seen_in c.frame_said.new.seen) _ _ _ _ _ _ _ _ _ c.loop-rest.invariant c.in-Some.ensures c.in_ok-next.ensures
    c.in_ok-append_answer-2.ensures.0 c.in_ok-append_answer-2.ensures.1 c.in_ok-append_answer-2.ensures.2

pub returns : goal.returns
returns c =
    let none : length c.loop-rest.rest.now ≡ 0 = search rules in
    all_read c.args.bytes.now c.loop-rest.rest.now c.loop-rest.at.number c.loop-rest.at.byte (seen_in c.loop-rest.seen) _ _ _ c.loop-rest.invariant none
