use Rattle.atproto_mst.proofs.Changing.{set_this, set_other, set_keys, set_rises, unset_this, unset_other, unset_keys, unset_rises}
use Rattle.atproto_mst.proofs.laws.one_changes.Goals as goal

pub returns-clause-set : goal.returns-clause-set
returns-clause-set c = record {
  this = set_this;
  others = λ key k value es not. set_other key value es k not;
  in_order = λ key value es is h. (set_keys key value es is h.0, set_rises key value es h.1);
}

pub returns-clause-unset : goal.returns-clause-unset
returns-clause-unset c = record {
  this = unset_this;
  others = λ key k es not. unset_other key es k not;
  in_order = λ key es h. (unset_keys key es h.0, unset_rises key es h.1);
}
