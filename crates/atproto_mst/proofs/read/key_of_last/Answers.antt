use Rattle.std.proofs.Common.{[], sym, ap, ◌∙◌}
use Rattle.atproto_mst.proofs.Rising.{last_of}
use Rattle.atproto_mst.proofs.read.key_of_last.Goals as goal

pub returns-in-Some : goal.returns-in-Some
returns-in-Some c = c.deref.ensures.value ∙ ap (λ e. e.key.items) c.in-Some.ensures.item.1 ∙ sym (last_of [] c.args.found.now c.in-Some.last.now c.in-Some.ensures.item.3.0)
