use Rattle.std.proofs.Common.{codes}
use Rattle.program_sections.proofs.Wording.{is_word, no_codec}
use Rattle.program_sections.proofs.words.by_of.Goals as goal

pub returns-in_default : goal.returns-in_default
returns-in_default c = no_codec c.args.option.now c.args.text.now (is_word (codes "--codec") c.args.option.now _ c.eq.ensures c.if-eq.true) c.in_default.ensures
