use Rattle.std.proofs.Common.{◌∷◌, [], subst, ◌∙◌}
use Rattle.ipld_tree.specs.Cid.{varint}
use Rattle.lent_memory.specs.Puts.{PutsAt}
use Rattle.lent_memory.proofs.Putting.{put_both}
use Rattle.dag_pb.proofs.place.put_tagged.Goals as goal

pub returns : goal.returns
returns c =
    let groups : PutsAt (varint c.args.number) c.put-following.result c.put-following.new.out c.put.new.out c.put.result = subst (λ g. PutsAt g c.put-following.result c.put-following.new.out c.put.new.out c.put.result) (c.deref.ensures.0 ∙ c.varint_of.ensures) c.put.ensures in
    put_both c.args.at c.put-following.result c.put.result (c.args.tag ∷ []) (varint c.args.number) c.args.out.now c.put-following.new.out c.put.new.out c.requires c.put-following.ensures groups
