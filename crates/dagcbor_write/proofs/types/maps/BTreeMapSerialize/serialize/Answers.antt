use Rattle.dagcbor_write.proofs.Refusals.{may_want}
use Rattle.dagcbor_write.proofs.Fields.{list_shows}
use Rattle.dagcbor_write.proofs.MapMessages.{entries_told}
use Rattle.dagcbor_write.proofs.types.maps.BTreeMapSerialize.serialize.Goals as goal

pub returns : goal.returns
returns g c =
    let shows = list_shows (λ e. (e.0.now, e.1.now)) (λ e. (g.K.Serialize.tree e.0, g.V.Serialize.tree e.1)) in
    record {
      written = rw c.iter.ensures.rest at c.write_entries.ensures.written _ shows;
      well_formed = rw c.iter.ensures.rest at c.write_entries.ensures.well_formed _ shows;
      memory = may_want _;
      lacks = c.write_entries.ensures.memory;
      message = rw c.iter.ensures.rest at c.write_entries.ensures.message _ shows;
      told = entries_told _ _ _ _ (rw c.iter.ensures.rest at c.write_entries.ensures.message _ shows);
    }
