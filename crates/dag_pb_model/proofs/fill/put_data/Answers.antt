use Rattle.std.proofs.Common.{◌+◌, ◌≤◌, length, codes, option_map, sym, subst}
use Rattle.ipld_tree.specs.Tree.{bytes}
use Rattle.lent_memory.specs.Puts.{PutsAt}
use Rattle.dag_pb_model.specs.Forms.{data_form}
use Rattle.dag_pb_model.proofs.Filling.{part_put}
use Rattle.dag_pb_model.proofs.fill.put_data.Goals as goal

pub returns-in-Some : goal.returns-in-Some
returns-in-Some c =
    let room = subst (λ o. c.args.at + length (data_form (option_map (λ s. s.now) o)) ≤ length c.args.out.now) c.in-Some.is c.requires in
    subst (λ o. PutsAt (data_form (option_map (λ s. s.now) o)) c.args.at c.args.out.now c.put_string.new.out c.put_string.result) (sym c.in-Some.is)
    (part_put (codes "Data") (bytes c.in-Some.inner.now) c.args.at c.put_string-following.result c.put_string.result c.args.out.now c.put_string-following.new.out c.put_string.new.out room c.put_string-following.ensures c.put_string.ensures)
