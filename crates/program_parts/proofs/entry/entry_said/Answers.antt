use Rattle.std.proofs.Common.{ap, ◌∙◌}
use Rattle.dag_pb.specs.Reads.{link_of}
use Rattle.program_parts.specs.Entries.{entry_line}
use Rattle.program_parts.proofs.entry.entry_said.Goals as goal

pub returns : goal.returns
returns c = λ h.
    let k = c.in_ok-words.ensures h in
    (k.0, (c.in_ok-words.words.items, k.1, c.in_ok-line.ensures ∙ ap (λ x. entry_line x (link_of c.args.link.now)) c.deref.ensures.value))
