use Rattle.std.proofs.Common.{ap, ◌∙◌, codes}
use Rattle.program_events.specs.Lines.{word_line}
use Rattle.program_events.specs.Seen.{seen_in}
use Rattle.program_events.proofs.Saying.{if_ok, error_said, other_said}
use Rattle.program_events.proofs.frame.read_said.Goals as goal

pub returns-in_ok-line-in-Error : goal.returns-in_ok-line-in-Error
returns-in_ok-line-in-Error c = if_ok c.told_at.result c.told_at.ensures (λ p h.
    error_said c.args.at.number c.args.at.byte (seen_in c.args.seen.now) c.args.frame.now c.in-Error.event c.deref.result.now p.0.1 p.0.0.items p.1.items c.in-Error.is
    (c.deref.ensures.value ∙ c.in_ok-line-in-Error.ensures ∙ ap (word_line (codes "the host ends the stream:")) c.as_str-in-Error.ensures.value) h)

pub returns-in_ok-line-in-Other : goal.returns-in_ok-line-in-Other
returns-in_ok-line-in-Other c = if_ok c.told_at-in-Other.result c.told_at-in-Other.ensures (λ p h.
    other_said c.args.at.number c.args.at.byte (seen_in c.args.seen.now) c.args.frame.now c.in-Other.name c.deref-in-Other.result.now p.0.1 p.0.0.items p.1.items c.in-Other.is
    (c.deref-in-Other.ensures.value ∙ c.in_ok-line-in-Other.ensures ∙ ap (word_line (codes "a kind that is not known:")) c.as_str-in-Other.ensures.value) h)
