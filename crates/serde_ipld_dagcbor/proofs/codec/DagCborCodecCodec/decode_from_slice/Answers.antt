use Rattle.serde_ipld_dagcbor.proofs.Codecs.{slice_not_decoded, slice_excused, alike_for_after, alike_in_memory}
use Rattle.std.proofs.Common.{false}
use Rattle.serde_ipld_dagcbor.proofs.codec.DagCborCodecCodec.decode_from_slice.Goals as goal

pub returns-in-Err-clause-answers : goal.returns-in-Err-clause-answers
returns-in-Err-clause-answers g c =
    let told = slice_not_decoded g.T.Shown.shape c.args.bytes.now c.in-Err.error c.of_no_device.result c.of_no_device.ensures c.in-Err.ensures.refused c.in-Err.ensures.never in
    slice_excused g.T.Shown.shape c.args.bytes.now c.of_no_device.result told.0

pub returns-in-Err-clause-exact : goal.returns-in-Err-clause-exact
returns-in-Err-clause-exact g c = slice_not_decoded g.T.Shown.shape c.args.bytes.now c.in-Err.error c.of_no_device.result c.of_no_device.ensures c.in-Err.ensures.refused c.in-Err.ensures.never

pub returns-in-Err-clause-following : goal.returns-in-Err-clause-following
returns-in-Err-clause-following g c = alike_for_after g.T.Shown.shape c.args.bytes.now c.in-Err.error c.of_no_device.result c.of_no_device.ensures c.in-Err.ensures.following

pub returns-in-Err-clause-memory : goal.returns-in-Err-clause-memory
returns-in-Err-clause-memory g c = alike_in_memory (g.T.Shown.shape.memory false) c.in-Err.error c.of_no_device.result c.of_no_device.ensures c.in-Err.ensures.memory
