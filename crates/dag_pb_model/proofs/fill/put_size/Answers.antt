use Rattle.std.proofs.Common.{◌+◌, ◌≤◌, length, codes, pos, sym, subst}
use Rattle.ipld_tree.specs.Tree.{integer}
use Rattle.lent_memory.specs.Puts.{PutsAt}
use Rattle.dag_pb_model.specs.Forms.{size_form}
use Rattle.dag_pb_model.proofs.Filling.{part_put}
use Rattle.dag_pb_model.proofs.fill.put_size.Goals as goal

pub returns-in-Some : goal.returns-in-Some
returns-in-Some c =
    let room = subst (λ o. c.args.at + length (size_form o) ≤ length c.args.out.now) c.in-Some.is c.requires in
    subst (λ o. PutsAt (size_form o) c.args.at c.args.out.now c.put_head.new.out c.put_head.result) (sym c.in-Some.is)
    (part_put (codes "Tsize") (integer (pos c.in-Some.tsize)) c.args.at c.put_string-following.result c.put_head.result c.args.out.now c.put_string-following.new.out c.put_head.new.out room c.put_string-following.ensures c.put_head.ensures)
