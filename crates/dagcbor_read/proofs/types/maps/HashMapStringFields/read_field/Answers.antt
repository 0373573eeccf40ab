use Rattle.std.proofs.Common.{◌∙◌, ap}
use Rattle.std.specs.BTreeMap.{insert_entry}
use Rattle.ipld_tree.specs.Key.{key_cmp}
use Rattle.dagcbor_read.specs.Collections.{in_key_order, held_pairs}
use Rattle.dagcbor_read.proofs.HashedPlaces.{put_hashed}
use Rattle.dagcbor_read.proofs.KeyPlaces.{value_put}
use Rattle.dagcbor_read.proofs.types.maps.HashMapStringFields.read_field.Goals as goal

pub returns-in-Ok-insert-clause-value : goal.returns-in-Ok-insert-clause-value
returns-in-Ok-insert-clause-value g c = λ f.
    let k = c.in_ok-value.ensures.value f in
    let pairs = in_key_order (held_pairs g.V.Shown.meaning c.args.places.now.entries) in
    let put = c.in-Ok-insert.ensures in
    let placed = put_hashed g.V.Shown.meaning c.args.places.now.entries c.insert.new.self.entries c.in-Ok.name c.in_ok-value.value c.in-Ok-insert.field-0 put.old put.entries put.unique
    ∙ ap (λ x. insert_entry key_cmp pairs x (g.V.Shown.meaning c.in_ok-value.value)) c.in-Ok.ensures.ok in
    (k.0, value_put g.V.Shown.shape pairs _ c.args.key.now _ placed k.1)
