use Rattle.serde_ipld_dagcbor.proofs.Codecs.{not_decoded}
use Rattle.serde_ipld_dagcbor.proofs.codec.DagCborCodecCodec.decode.Goals as goal

pub returns-in-Err-clause-answers : goal.returns-in-Err-clause-answers
returns-in-Err-clause-answers g c = not_decoded g.T.Shown.shape (g.R.Read.remaining c.args.reader) c.in-Err.error c.in-Err.ensures.refused
