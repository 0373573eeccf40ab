use Rattle.std.proofs.Common.{sym}
use Rattle.dagcbor_decode.proofs.Sound.{any_got}
use Rattle.dagcbor_decode.proofs.Parts.{is_block, has_more, no_item}
use Rattle.dagcbor_decode.proofs.slices.judge_block.Goals as goal

pub returns-in_err-rest : goal.returns-in_err-rest
returns-in_err-rest c = rw c.from_residual.ensures (no_item c.args.bytes.now _ _ (sym c.in_err-rest.ensures))

pub returns-in_default : goal.returns-in_default
returns-in_default c = is_block c.args.bytes.now c.in_ok-rest.rest.now _ (sym c.in_ok-rest.ensures) c.in_default.ensures.cases (λ t r e. c.kind_of_front.ensures t r (any_got 256 c.args.bytes.now t r (λ i. (c.type_inv.bytes i).fits) e).0)

pub returns : goal.returns
returns c = has_more c.args.bytes.now c.in_ok-rest.rest.now _ _ (sym c.in_ok-rest.ensures) c.in-Some.ensures.cases.0
