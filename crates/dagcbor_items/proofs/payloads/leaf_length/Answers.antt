use Rattle.std.proofs.Common.{sym, ◌∙◌, arith}
use Rattle.dagcbor_decode.proofs.Fronts.{head_opened}
use Rattle.dagcbor_items.proofs.Lent.{front_within}
use Rattle.dagcbor_items.proofs.Walking.{no_links}
use Rattle.dagcbor_items.proofs.payloads.leaf_length.Goals as goal

pub overflow_sub-result : goal.overflow_sub-result
overflow_sub-result c = let k = c.in_ok-rest.ensures _ c.in_ok-major.ensures in omega (arith, front_within k.0 k.1)

pub returns : goal.returns
returns c =
    let k = c.in_ok-rest.ensures _ c.in_ok-major.ensures in
    let m = (head_opened _ _ _ _ _ k.0 c.in_ok-major.ensures k.1).0 in
    (k.0, c.in_ok-rest.rest.now, k.1, k.2, no_links k.0 (λ e. c.if-major-eq4.false (sym m ∙ e)) (λ e. c.if-major-eq5.false (sym m ∙ e)) (λ e. c.if-major-eq6.false (sym m ∙ e)), omega (arith, front_within k.0 k.1))
