use Rattle.std.proofs.Common.{sym, ◌∙◌}
use Rattle.dagcbor_decode.proofs.Parts.{text_leaf}
use Rattle.dagcbor_decode.proofs.part.leaf_of.Goals as goal

pub returns-in-3 : goal.returns-in-3
returns-in-3 c = c.characters_of.ensures ∙ sym (text_leaf c.args.first c.args.bytes.now c.in-3.is)
