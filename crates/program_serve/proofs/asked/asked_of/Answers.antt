use Rattle.program_serve.proofs.Asking.{asks}
use Rattle.program_serve.proofs.asked.asked_of.Goals as goal

pub returns : goal.returns
returns c = asks c.args.line.now c.in-Ok.text.now c.split_word.result.0.now c.split_word.result.1.now c.in_ok-word.word c.meant.result c.in-Ok.ensures.cases.1 c.in-Ok.ensures.cases.0 c.split_word.ensures.first c.split_word.ensures.following c.in_ok-word.ensures c.meant.ensures
