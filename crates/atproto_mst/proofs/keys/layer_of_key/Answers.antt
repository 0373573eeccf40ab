use Rattle.std.proofs.Common.{◌∙◌, ap, ◌/◌}
use Rattle.atproto_mst.specs.Keys.{zero_bits, key_layer}
use Rattle.atproto_mst.proofs.keys.layer_of_key.Goals as goal

pub returns-clause-value : goal.returns-clause-value
unfolding key_layer
returns-clause-value c = ap (λ n. n / 2) (c.leading_zeros.ensures.value ∙ ap zero_bits (c.as_slice.ensures ∙ c.digest-digest.ensures))
