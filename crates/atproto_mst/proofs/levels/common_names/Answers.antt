use Rattle.std.proofs.Common.{◌+◌, sym, subst, take}
use Rattle.std.proofs.lemmas.List.{take_all}
use Rattle.ipld_links.specs.Sets.{Among, members}
use Rattle.atproto_mst.proofs.Opening.{HasCommonOf, not_so, common_added, other_passed}
use Rattle.atproto_mst.proofs.levels.common_names.Goals as goal
use Rattle.atproto_mst.proofs.levels.common_names.Goals.{then-contains+in_ok-add, else-contains}

pub loop-name-preserved : goal.loop-name-preserved
loop-name-preserved c = elim c.if-contains.branch [
  | then-contains+in_ok-add w ↦
      subst (λ s. HasCommonOf s c.args.names.now (take (c.loop-name.name-index + 1) c.args.others.now)) (sym w.common-is)
      (common_added c.args.names.now c.args.others.now c.loop-name.name-index c.name-item.result c.loop-name.common w.add.new.self c.loop-name-test.true c.name-item.is
      ((c.in_ok-set.ensures c.name-item.result).0 (c.contains.ensures.0 w.if-contains.true)) w.in_ok-add.ensures c.loop-name.invariant)
  | else-contains w ↦
      subst (λ s. HasCommonOf s c.args.names.now (take (c.loop-name.name-index + 1) c.args.others.now)) (sym w.common-is)
      (other_passed c.args.names.now c.args.others.now c.loop-name.name-index c.name-item.result c.loop-name.common c.loop-name-test.true c.name-item.is
      (λ m. not_so (Among c.name-item.result (members c.in_ok-set.set)) c.contains.result w.if-contains.false c.contains.ensures ((c.in_ok-set.ensures c.name-item.result).1 m)) c.loop-name.invariant)
]

pub returns : goal.returns
returns c = subst (HasCommonOf c.loop-name.common c.args.names.now) (take_all c.loop-name.name-index c.args.others.now c.loop-name-test.false) c.loop-name.invariant
