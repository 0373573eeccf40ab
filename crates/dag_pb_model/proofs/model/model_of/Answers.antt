use Rattle.std.proofs.Common.{◌≡◌, ◌++◌, length, take, drop, refl, sym, ap₂, ◌∙◌, subst, arith}
use Rattle.std.proofs.lemmas.Result.{err_from_is_err_and}
use Rattle.std.proofs.Math.Seq.{take-append_seam}
use Rattle.ipld_tree.specs.Spelling.{spelling}
use Rattle.dagcbor_decode.specs.Blocks.{IsBlock}
use Rattle.dag_pb_model.specs.Model.{node_model, IsNodeOf}
use Rattle.lent_memory.proofs.Putting.{fills_all}
use Rattle.dag_pb_model.proofs.Blocks.{model_block}
use Rattle.dag_pb_model.proofs.model.model_of.Goals as goal

pub returns-in_err-resize : goal.returns-in_err-resize
returns-in_err-resize c =
    let (parts, is, texts, found, fits) = c.in-Ok.ensures in
    let p = err_from_is_err_and c.from_residual.result c.from_residual.ensures.1 in
    rw p.1 (node_model parts, (parts, is, texts, refl))

pub returns : goal.returns
returns c =
    let (parts, is, texts, found, fits) = c.in-Ok.ensures in
    let s = spelling (node_model parts) in
    let counted = c.total.ensures parts found in
    let of : IsNodeOf c.args.node.now (node_model parts) = (parts, is, texts, refl) in
    let items = c.resize.new.self.items in
    let n = c.resize.new.self.len in
    let long : length s ≡ length c.deref_mut.result.now = omega (arith, counted, c.deref_mut.ensures.len, c.in_ok-resize.ensures.len, c.resize.new.self.small) in
    let counts : n ≡ length s = omega (arith, long, c.deref_mut.ensures.len) in
    let put = c.fill.ensures parts is ∙ fills_all s c.deref_mut.result.now long in
    let whole : take n (c.fill.new.out ++ drop (length c.fill.new.out) items) ≡ s =
    ap₂ (λ k x. take k (x ++ drop (length x) items)) counts put ∙ take-append_seam s (drop (length s) items) in
    (node_model parts, of, subst (λ b. IsBlock b (node_model parts)) (sym whole) (model_block c.args.node.now (node_model parts) of (omega arith)))
