use Rattle.std.proofs.Common.{option_map}
use Rattle.lent_memory.proofs.Putting.{put_both, room_before, room_after}
use Rattle.dag_pb.specs.Spelling.{name_field, tsize_field}
use Rattle.dag_pb.proofs.place.put_ends.Goals as goal

pub put_name-following-requires : goal.put_name-following-requires
put_name-following-requires c = room_before c.args.at (name_field (option_map (λ b. b.now) c.args.name)) (tsize_field c.args.tsize) c.args.out.now c.requires

pub put_tsize-requires : goal.put_tsize-requires
put_tsize-requires c = room_after c.args.at c.put_name-following.result (name_field (option_map (λ b. b.now) c.args.name)) (tsize_field c.args.tsize) c.args.out.now c.put_name-following.new.out c.requires c.put_name-following.ensures

pub returns : goal.returns
returns c = put_both c.args.at c.put_name-following.result c.put_tsize.result (name_field (option_map (λ b. b.now) c.args.name)) (tsize_field c.args.tsize) c.args.out.now c.put_name-following.new.out c.put_tsize.new.out c.requires c.put_name-following.ensures c.put_tsize.ensures
