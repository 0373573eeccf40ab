use Rattle.std.proofs.Common.{ap, ◌∷◌, ◌∙◌}
use Rattle.dagcbor_decode.proofs.Fronts.{plain_cid}
use Rattle.dagcbor_decode.proofs.cid.is_plain_cid.Goals as goal

pub returns : goal.returns
returns c passes =
    let k = c.are_short_fields.ensures passes in
    let d = c.in-Some-split_first-3 in
    plain_cid _ d.digest.now c.in-Some-split_first.codec.now c.in-Some-split_first-2.hash_code.now d.count.now
    (rw c.if-version-ne1.false at (c.in-Some.ensures.cases.0 ∙ ap (λ x. c.in-Some.version.now ∷ x) (c.in-Some-split_first.ensures.cases.0 ∙ ap (λ x. c.in-Some-split_first.codec.now ∷ x) (c.in-Some-split_first-2.ensures.cases.0 ∙ ap (λ x. c.in-Some-split_first-2.hash_code.now ∷ x) d.ensures.cases.0))))
    k.0 k.1 k.2 k.3
