use Rattle.std.proofs.Common.{◌≡◌, ◌+◌, ◌≤◌, ◌++◌, length, codes, sym, ap₂, ◌∙◌, subst}
use Rattle.dagcbor_core.specs.Head.{head}
use Rattle.ipld_tree.specs.Spelling.{text_spelling}
use Rattle.dag_pb.specs.Reads.{link_of}
use Rattle.lent_memory.specs.Puts.{PutsAt, link_form}
use Rattle.dag_pb_model.specs.Forms.{name_form, size_form, written_link}
use Rattle.dag_pb_model.proofs.Filling.{five_put}
use Rattle.dag_pb_model.proofs.fill.put_model_of.Goals as goal

pub returns : goal.returns
returns c =
    let l = link_of c.args.link.now in
    let cid = c.deref.result.now in
    let front = head 5 c.link_entries.result in
    let is : written_link l ≡ front ++ (text_spelling (codes "Hash") ++ (link_form cid ++ (name_form l.name ++ size_form l.tsize))) =
    ap₂ (λ n s. head 5 n ++ (text_spelling (codes "Hash") ++ (link_form s ++ (name_form l.name ++ size_form l.tsize)))) (sym c.link_entries.ensures.count) (sym (c.deref.ensures.0 ∙ c.write_bytes.ensures.bytes)) in
    subst (λ s. PutsAt s c.args.at c.args.out.now c.put_size.new.out c.put_size.result) (sym is)
    (five_put c.args.at c.put_head-key.result c.put_string-hash.result c.put_link-name.result c.put_name-size.result c.put_size.result front (text_spelling (codes "Hash")) (link_form cid) (name_form l.name) (size_form l.tsize) c.args.out.now c.put_head-key.new.out c.put_string-hash.new.out c.put_link-name.new.out c.put_name-size.new.out c.put_size.new.out
    (subst (λ s. c.args.at + length s ≤ length c.args.out.now) is c.requires) c.put_head-key.ensures c.put_string-hash.ensures c.put_link-name.ensures c.put_name-size.ensures c.put_size.ensures)
