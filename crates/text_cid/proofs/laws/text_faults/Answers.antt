use Rattle.text_cid.proofs.TextFaults.{none_of_text, one_of_text}
use Rattle.text_cid.proofs.laws.text_faults.Goals as goal

pub returns : goal.returns
returns c = λ text e h. (λ d k. none_of_text text d e k h, λ f g. one_of_text text e f h g)
