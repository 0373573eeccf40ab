use Rattle.std.proofs.Common.{◌∙◌, ap}
use Rattle.std.specs.BTreeMap.{insert_entry}
use Rattle.ipld_tree.specs.Key.{key_cmp}
use Rattle.dagcbor_read.specs.Collections.{in_key_order, held_pairs}
use Rattle.dagcbor_read.proofs.KeyPlaces.{put_sorted, value_put}
use Rattle.dagcbor_read.proofs.types.maps.BTreeMapStringFields.read_field.Goals as goal

pub returns-in-Ok-insert-clause-value : goal.returns-in-Ok-insert-clause-value
returns-in-Ok-insert-clause-value g c = λ f.
    let k = c.in_ok-value.ensures.value f in
    let pairs = in_key_order (held_pairs g.V.Shown.meaning c.args.places.now.entries) in
    let placed = ap (λ es. in_key_order (held_pairs g.V.Shown.meaning es)) c.in-Ok-insert.ensures.entries ∙ put_sorted g.V.Shown.meaning c.args.places.now.entries c.in-Ok.name c.in_ok-value.value
    ∙ ap (λ x. insert_entry key_cmp pairs x (g.V.Shown.meaning c.in_ok-value.value)) c.in-Ok.ensures.ok in
    (k.0, value_put g.V.Shown.shape pairs _ c.args.key.now _ placed k.1)
