use Rattle.std.proofs.Common.{refl, ◌∙◌}
use Rattle.serde_ipld_dagcbor.specs.ByHand.{other_name, handed_on, value_unfinished}
use Rattle.tests_types.proofs.tests.by_hand.tagged.CidInInternallyTaggedEnumDeserialize.deserialize.Goals as goal

pub returns-in_err-fields-clause-value : goal.returns-in_err-fields-clause-value
returns-in_err-fields-clause-value g c = handed_on _ _ _ _ _ _ _ _ c.from_residual.ensures.1 c.in_err-fields.ensures.value

pub returns-clause-value : goal.returns-clause-value
returns-clause-value g c =
    let tag = other_name (λ e. c.in_default.not-MyCid (c.as_str.ensures.value ∙ e)) in
    value_unfinished _ _ _ (c.custom.ensures.0, c.custom.ensures.1) (rw tag refl) c.in_ok-fields.ensures.value
