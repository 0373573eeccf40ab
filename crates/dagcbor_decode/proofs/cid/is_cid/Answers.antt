use Rattle.std.proofs.Common.{sym, ◌∙◌}
use Rattle.dagcbor_decode.proofs.CidTest.{cid_tested}
use Rattle.dagcbor_decode.proofs.Fronts.{same_test}
use Rattle.dagcbor_decode.proofs.cid.is_cid.Goals as goal

pub returns-then-is_plain_cid : goal.returns-then-is_plain_cid
returns-then-is_plain_cid c = c.if-is_plain_cid.true ∙ sym ((cid_tested c.args.bytes.now).1 (c.is_plain_cid.ensures c.if-is_plain_cid.true))

pub returns-else-is_plain_cid : goal.returns-else-is_plain_cid
returns-else-is_plain_cid c = same_test c.is_any_cid.result _ _ c.is_any_cid.ensures (cid_tested c.args.bytes.now)
