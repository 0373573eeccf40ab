-- The codec's links: what is refused without an excuse begins with no item.
use Rattle.serde_ipld_dagcbor.proofs.Codecs.{links_excused}
use Rattle.serde_ipld_dagcbor.proofs.codec.DagCborCodecLinks.links.Goals as goal

pub returns-in-Err-clause-answers : goal.returns-in-Err-clause-answers
returns-in-Err-clause-answers c = links_excused c.args.bytes.now c.in-Err.error c.in-Err.ensures.decoded
