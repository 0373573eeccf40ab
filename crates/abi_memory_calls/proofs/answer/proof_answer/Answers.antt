use Rattle.abi_memory_calls.proofs.Putting.{made_so}
use Rattle.abi_memory_calls.proofs.answer.proof_answer.Goals as goal

pub returns-in-Ok : goal.returns-in-Ok
returns-in-Ok c = made_so c.args.file.now c.args.key.now c.in-Ok.answer c.made_of.result c.in-Ok.ensures c.made_of.ensures
