use Rattle.abi_calls.proofs.LongerCalls.{more_bytes_agree}
use Rattle.abi_calls.proofs.laws.more_bytes_agree.Goals as goal

pub returns : goal.returns
returns c = more_bytes_agree
