use Rattle.std.proofs.Common.{ap, ◌∙◌}
use Rattle.program_events.specs.Seen.{seen_in}
use Rattle.program_events.proofs.Saying.{if_ok, commit_verified, commit_refused}
use Rattle.program_events.proofs.frame.commit_said.Goals as goal

pub returns-in-Ok : goal.returns-in-Ok
returns-in-Ok c = if_ok c.verified_said.result (c.verified_said.ensures c.known_of-known.result c.in-Ok.ensures.verified) (λ p h.
    commit_verified c.args.at.number c.args.at.byte (seen_in c.args.seen.now) (seen_in c.verified_said.new.seen) c.args.frame.now c.known_of-known.result c.in-Ok.verified p.0.1 p.0.0.items p.1.items
    (c.known_of-known.ensures ∙ ap (seen_in c.args.seen.now) c.as_str.ensures.value) c.in-Ok.ensures.verified h)

pub returns-in_ok-line-in-Err : goal.returns-in_ok-line-in-Err
returns-in_ok-line-in-Err c = if_ok c.told_at.result c.told_at.ensures (λ p h.
    commit_refused c.args.at.number c.args.at.byte (seen_in c.args.seen.now) c.args.frame.now c.known_of-known.result c.in-Err.error c.deref.result.now p.0.1 p.0.0.items p.1.items
    (c.known_of-known.ensures ∙ ap (seen_in c.args.seen.now) c.as_str.ensures.value) c.in-Err.ensures.refused c.in_ok-line-in-Err.ensures.0 (c.deref.ensures.value ∙ c.in_ok-line-in-Err.ensures.1) h)
