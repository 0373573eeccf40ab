use Rattle.text_cid.proofs.Texting.{one_cid}
use Rattle.text_cid.proofs.laws.texts_tell_cids.Goals as goal

pub returns : goal.returns
returns c = one_cid
