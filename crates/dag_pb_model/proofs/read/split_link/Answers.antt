use Rattle.dag_pb_model.proofs.Parting.{no_cid_of}
use Rattle.dag_pb_model.proofs.read.split_link.Goals as goal

pub returns-in_err-cid : goal.returns-in_err-cid
returns-in_err-cid c = rw c.from_residual-in_err-cid.ensures (no_cid_of c.args.bytes.now c.in_ok-tagged.tagged.now c.in_ok-payload.payload.now c.in_ok-payload.rest.now c.in_ok-tagged.ensures c.in_ok-payload.ensures c.in_err-cid.ensures)
