use Rattle.std.proofs.Common.{sym, ◌∙◌}
use Rattle.files_unix_fs.proofs.Nodes.{codec_read}
use Rattle.files_unix_fs.proofs.wanted.codec_in.Goals as goal

pub returns-in_default : goal.returns-in_default
returns-in_default c = c.codec.ensures ∙ sym (codec_read c.args.cid.now c.version.ensures.valid)
