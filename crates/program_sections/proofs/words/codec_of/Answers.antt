use Rattle.program_sections.proofs.Wording.{no_codec_name}
use Rattle.program_sections.proofs.words.codec_of.Goals as goal

pub returns-in_default : goal.returns-in_default
returns-in_default c = no_codec_name c.args.text.now c.hex_of.result c.in_default.not-raw c.in_default.not-text c.in_default.not-text-2 c.in_default.not-text-3 c.in_default.not-text-4 c.in_default.not-json c.hex_of.ensures
