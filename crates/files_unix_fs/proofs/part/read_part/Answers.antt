use Rattle.std.proofs.Common.{◌≢◌, ◌<◌, sym, arith}
use Rattle.files_unix_fs.specs.Reading.{asked}
use Rattle.files_unix_fs.proofs.Parts.{too_deep, other_codec}
use Rattle.files_unix_fs.proofs.part.read_part.Goals as goal

pub returns-then-wanted-eq0 : goal.returns-then-wanted-eq0
returns-then-wanted-eq0 c = (c.if-wanted-eq0.true, too_deep (asked c.args.wanted.now) c.args.block.now c.if-wanted-eq0.true)

pub returns-in_default : goal.returns-in_default
returns-in_default c =
    let deep : 0 < c.args.wanted.now.depth = omega (arith, c.if-wanted-eq0.false) in
    let raw : c.codec_in-codec.result ≢ 0x55 = λ e. omega (arith, e) in
    let node : c.codec_in-codec.result ≢ 0x70 = λ e. omega (arith, e) in (
      (c.codec_in-codec.ensures, raw, node),
      other_codec (asked c.args.wanted.now) c.args.block.now c.codec_in-codec.result (sym c.codec_in-codec.ensures) raw node deep,
    )
