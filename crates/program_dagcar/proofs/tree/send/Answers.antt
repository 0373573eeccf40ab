use Rattle.std.proofs.Common.{rules, [], ◌∷◌}
use Rattle.ipld_tree.specs.Cid.{cid_bytes}
use Rattle.files_car.specs.Car.{car_bytes}
use Rattle.ipld_links.specs.Reaching.{stored_in}
use Rattle.files_car.specs.Reached.{sections_at}
use Rattle.program_parts.proofs.Saying.{front_sent}
use Rattle.program_dagcar.proofs.tree.send.Goals as goal

pub returns-in-Write : goal.returns-in-Write
returns-in-Write g c =
    front_sent (car_bytes (cid_bytes c.args.root.now ∷ []) (sections_at (stored_in c.args.blocks.now) c.args.names.now)) c.new-writer.result c.push_tree-sent.new.writer c.in-Err.error c.in-Write.field-0 _ _ c.in-Err.ensures.written c.in-Write.is (search rules) (search rules)
