use Rattle.std.proofs.Common.{◌≡◌, [], refl, ap, ◌∙◌, subst, ◌↔◌, IsTrue, flat_map}
use Rattle.ipld_links.specs.Reaching.{stored_in}
use Rattle.program_parts.specs.Lines.{missing_line}
use Rattle.program_dagcar.proofs.Finding.{tree_broken, told_broken}
use Rattle.program_dagcar.proofs.tree.say_reached.Goals as goal

pub returns-in_err-send_tree : goal.returns-in_err-send_tree
returns-in_err-send_tree g c reaches =
    tree_broken (stored_in c.args.blocks.now) c.args.root.now c.args.reached.now.found.items c.deref-2.result.now c.args.reached.now.lost.items c.in_ok-told.whole c.in_ok-told.told.items c.in_ok-told.told.items c.deref-2.ensures.value reaches
    (c.in_ok-told.ensures.lines ∙ ap (λ l. flat_map missing_line l) c.deref.ensures.value) refl (subst (λ l. IsTrue c.in_ok-told.whole ↔ (l ≡ [])) c.deref.ensures.value c.in_ok-told.ensures.well)
    (g.W.Write.contents c.args.output.now) (g.V.Write.contents c.args.errors.now) (g.W.Write.contents c.send_tree.new.output) c.from_residual-in_err-send_tree.result c.in_err-send_tree.field-0.0 c.from_residual-in_err-send_tree.ensures.1 c.in_err-send_tree.ensures

pub returns-in_err-write_all : goal.returns-in_err-write_all
returns-in_err-write_all g c reaches =
    let w = c.in_err-write_all.ensures.written in
    told_broken (stored_in c.args.blocks.now) c.args.root.now c.args.reached.now.found.items c.deref-2.result.now c.args.reached.now.lost.items c.in_ok-told.whole c.in_ok-told.told.items c.deref-3.result.now c.deref-2.ensures.value reaches
    (c.in_ok-told.ensures.lines ∙ ap (λ l. flat_map missing_line l) c.deref.ensures.value) c.deref-3.ensures.value (subst (λ l. IsTrue c.in_ok-told.whole ↔ (l ≡ [])) c.deref.ensures.value c.in_ok-told.ensures.well)
    (g.W.Write.contents c.args.output.now) (g.V.Write.contents c.args.errors.now) (g.W.Write.contents c.send_tree.new.output) (g.V.Write.contents c.write_all.new.writer) c.from_residual-in_err-write_all.result c.in_err-write_all.field-0.0 c.from_residual-in_err-write_all.ensures.1 c.in_err-write_all.ensures.fault c.in_ok-send_tree.ensures
    (w.0, w.1, w.2, w.3)
