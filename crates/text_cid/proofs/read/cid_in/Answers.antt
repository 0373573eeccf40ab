use Rattle.text_cid.proofs.Texting.{no_cid}
use Rattle.text_cid.proofs.read.cid_in.Goals as goal

pub returns-in-Err-try_from : goal.returns-in-Err-try_from
returns-in-Err-try_from c = no_cid c.args.base c.args.text.now c.in-Ok.bytes.items c.in-Err-try_from.fault c.in-Ok.ensures (rw c.as_slice.ensures.value at c.in-Err-try_from.ensures)
