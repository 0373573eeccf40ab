use Rattle.std.proofs.Common.{◌≡◌, ◌++◌, ◌&&◌, ap, sym, subst, ◌∙◌}
use Rattle.ipld_links.specs.Reaching.{stored_in}
use Rattle.dag_pb.specs.Reads.{link_of}
use Rattle.program_parts.proofs.Listing.{IsListedTo, one_listed, all_listed}
use Rattle.program_parts.proofs.entries.entries_said.Goals as goal
use Rattle.program_parts.proofs.entries.entries_said.Goals.{then-well, else-well}

pub loop-link-preserved : goal.loop-link-preserved
loop-link-preserved c =
    let stored = stored_in c.args.blocks.now in
    let k = c.in_ok-line.ensures c.loop-link.invariant.0 in
    let both : c.if-well.well ≡ (c.loop-link.well && c.in_ok-line.has_kind) = elim c.if-well.branch [ then-well w ↦ w.well-is ∙ sym (ap (λ t. t && c.in_ok-line.has_kind) w.if-well.true) | else-well w ↦ w.well-is ∙ w.if-well.false ∙ sym (ap (λ t. t && c.in_ok-line.has_kind) w.if-well.false) ] in
    let lines : c.extend_from_slice.new.self.items ≡ c.loop-link.lines.items ++ c.in_ok-line.line.items = c.in_ok-extend_from_slice.ensures.items ∙ ap (λ x. c.loop-link.lines.items ++ x) c.deref.ensures.value in
    let listed = one_listed stored c.args.block.now c.loop-link.links.now c.in-Some.more.now (link_of c.in-Some.link) c.loop-link.well c.in_ok-line.has_kind c.loop-link.lines.items c.in_ok-line.line.items c.loop-link.invariant.1 c.in-Some.ensures.link k.1 in (
      k.0,
      subst (λ w. IsListedTo stored c.args.block.now c.in-Some.more.now w c.extend_from_slice.new.self.items) (sym both)
          (subst (IsListedTo stored c.args.block.now c.in-Some.more.now (c.loop-link.well && c.in_ok-line.has_kind)) (sym lines) listed),
    )

pub returns : goal.returns
returns c =
    all_listed (stored_in c.args.blocks.now) c.args.block.now c.loop-link.links.now c.loop-link.well c.loop-link.lines.items c.loop-link.invariant.1 c.in_default.ensures.link
