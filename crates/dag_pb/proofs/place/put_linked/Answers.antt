use Rattle.std.proofs.Common.{◌∷◌, ◌++◌, option_map, length, subst}
use Rattle.ipld_tree.specs.Cid.{varint}
use Rattle.lent_memory.specs.Puts.{PutsAt}
use Rattle.lent_memory.proofs.Putting.{put_both, room_before, room_after}
use Rattle.dag_pb.specs.Spelling.{bytes_field, name_field, tsize_field}
use Rattle.dag_pb.proofs.place.put_linked.Goals as goal

pub put_tagged-inside-requires : goal.put_tagged-inside-requires
put_tagged-inside-requires c =
    let message = bytes_field 0x0a c.args.hash.now ++ (name_field (option_map (λ b. b.now) c.args.name) ++ tsize_field c.args.tsize) in
    rw c.message_length-message.ensures.length (room_before c.args.at (0x12 ∷ varint (length message)) message c.args.out.now c.requires.room)

pub put_bytes-following-requires : goal.put_bytes-following-requires
put_bytes-following-requires c =
    let hash = bytes_field 0x0a c.args.hash.now in
    let ends = name_field (option_map (λ b. b.now) c.args.name) ++ tsize_field c.args.tsize in
    let tagged = c.put_tagged-inside in
    let front : PutsAt (0x12 ∷ varint (length (hash ++ ends))) c.args.at c.args.out.now tagged.new.out tagged.result = subst (λ n. PutsAt (0x12 ∷ varint n) c.args.at c.args.out.now tagged.new.out tagged.result) c.message_length-message.ensures.length tagged.ensures in
    room_before tagged.result hash ends tagged.new.out (room_after c.args.at tagged.result (0x12 ∷ varint (length (hash ++ ends))) (hash ++ ends) c.args.out.now tagged.new.out c.requires.room front)

pub put_ends-requires : goal.put_ends-requires
put_ends-requires c =
    let hash = bytes_field 0x0a c.args.hash.now in
    let ends = name_field (option_map (λ b. b.now) c.args.name) ++ tsize_field c.args.tsize in
    let tagged = c.put_tagged-inside in
    let front : PutsAt (0x12 ∷ varint (length (hash ++ ends))) c.args.at c.args.out.now tagged.new.out tagged.result = subst (λ n. PutsAt (0x12 ∷ varint n) c.args.at c.args.out.now tagged.new.out tagged.result) c.message_length-message.ensures.length tagged.ensures in
    room_after tagged.result c.put_bytes-following.result hash ends tagged.new.out c.put_bytes-following.new.out (room_after c.args.at tagged.result (0x12 ∷ varint (length (hash ++ ends))) (hash ++ ends) c.args.out.now tagged.new.out c.requires.room front) c.put_bytes-following.ensures

pub returns : goal.returns
returns c =
    let hash = bytes_field 0x0a c.args.hash.now in
    let ends = name_field (option_map (λ b. b.now) c.args.name) ++ tsize_field c.args.tsize in
    let tagged = c.put_tagged-inside in
    let front : PutsAt (0x12 ∷ varint (length (hash ++ ends))) c.args.at c.args.out.now tagged.new.out tagged.result = subst (λ n. PutsAt (0x12 ∷ varint n) c.args.at c.args.out.now tagged.new.out tagged.result) c.message_length-message.ensures.length tagged.ensures in
    let room = room_after c.args.at tagged.result (0x12 ∷ varint (length (hash ++ ends))) (hash ++ ends) c.args.out.now tagged.new.out c.requires.room front in
    put_both c.args.at tagged.result c.put_ends.result (0x12 ∷ varint (length (hash ++ ends))) (hash ++ ends) c.args.out.now tagged.new.out c.put_ends.new.out c.requires.room front
    (put_both tagged.result c.put_bytes-following.result c.put_ends.result hash ends tagged.new.out c.put_bytes-following.new.out c.put_ends.new.out room c.put_bytes-following.ensures c.put_ends.ensures)
