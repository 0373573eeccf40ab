use Rattle.std.proofs.Common.{sym, ◌∙◌}
use Rattle.dagcbor_decode.proofs.CidTest.{cid_tested}
use Rattle.abi_calls.proofs.judge.cid_of.Goals as goal

pub returns-then-is_cid : goal.returns-then-is_cid
returns-then-is_cid c = ((cid_tested _).0 (sym c.is_cid.ensures ∙ c.if-is_cid.true), c.in_ok-payload.ensures)
