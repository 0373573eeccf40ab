use Rattle.std.proofs.Common.{sym}
use Rattle.dagcbor_decode.specs.Decode.{decode_first}
use Rattle.dagcbor_decode.proofs.FirstLinks.{first_is, rest_shorter, none_first}
use Rattle.dagcbor_decode.proofs.links.first_item.Goals as goal

pub returns-in_default : goal.returns-in_default
returns-in_default c = none_first (decode_first c.args.bytes.now) c.refusal.result _ _ (sym c.in_default.ensures) c.refusal.ensures

pub overflow_sub-bytes : goal.overflow_sub-bytes
overflow_sub-bytes c = rest_shorter c.args.bytes.now c.in-Some.rest.now (λ i. (c.type_inv.bytes i).fits) (sym c.in-Some.ensures)

pub returns : goal.returns
returns c = first_is c.args.bytes.now c.in-Some.rest.now _ (λ i. (c.type_inv.bytes i).fits) (sym c.in-Some.ensures) c.split_at.ensures.front
