use Rattle.std.proofs.Common.{◌∷◌, length}
use Rattle.ipld_tree.specs.Cid.{varint}
use Rattle.lent_memory.proofs.Putting.{put_both, room_before, room_after}
use Rattle.dag_pb.proofs.place.put_bytes.Goals as goal

pub put_tagged-following-requires : goal.put_tagged-following-requires
put_tagged-following-requires c = room_before c.args.at (c.args.tag ∷ varint (length c.args.inner.now)) c.args.inner.now c.args.out.now c.requires

pub put-requires : goal.put-requires
put-requires c = room_after c.args.at c.put_tagged-following.result (c.args.tag ∷ varint (length c.args.inner.now)) c.args.inner.now c.args.out.now c.put_tagged-following.new.out c.requires c.put_tagged-following.ensures

pub returns : goal.returns
returns c = put_both c.args.at c.put_tagged-following.result c.put.result (c.args.tag ∷ varint (length c.args.inner.now)) c.args.inner.now c.args.out.now c.put_tagged-following.new.out c.put.new.out c.requires c.put_tagged-following.ensures c.put.ensures
