use Rattle.std.proofs.Common.{[], ◌∷◌, drop, ◌+◌}
use Rattle.ipld_tree.specs.Cid.{cid_bytes}
use Rattle.ipld_links.specs.Reaching.{stored_in}
use Rattle.files_car.specs.Reached.{section_at, sections_at}
use Rattle.files_car.proofs.Writing.{sections_left, written_more, header_stopped, section_stopped}
use Rattle.files_car.proofs.tree.push_tree.Goals as goal

pub returns-in_err-push_header-clause-written : goal.returns-in_err-push_header-clause-written
returns-in_err-push_header-clause-written g c = header_stopped (cid_bytes c.args.root.now ∷ []) (sections_at (stored_in c.args.blocks.now) c.args.names.now) (g.W.Write.written c.args.writer.now) (g.W.Write.written c.push_header.new.writer) c.from_residual.result c.in_err-push_header.field-0.0 c.from_residual.ensures.1 c.in_err-push_header.ensures.written

pub returns-in_err-push_stored-clause-written : goal.returns-in_err-push_stored-clause-written
returns-in_err-push_stored-clause-written g c =
    let stored = stored_in c.args.blocks.now in
    section_stopped (cid_bytes c.args.root.now ∷ []) (sections_at stored c.args.names.now) (sections_at stored (drop c.loop-name.name-index c.args.names.now)) (section_at stored c.name-item.result) (sections_at stored (drop (c.loop-name.name-index + 1) c.args.names.now)) _ _ (g.W.Write.written c.push_stored.new.writer) c.from_residual-in_err-push_stored.result c.in_err-push_stored.field-0.0
    (sections_left stored c.args.names.now c.loop-name.name-index c.name-item.result c.loop-name-test.true c.name-item.is) c.loop-name.invariant c.from_residual-in_err-push_stored.ensures.1 c.in_err-push_stored.ensures.written

pub loop-name-preserved : goal.loop-name-preserved
loop-name-preserved g c =
    let stored = stored_in c.args.blocks.now in
    written_more (cid_bytes c.args.root.now ∷ []) (sections_at stored c.args.names.now) (sections_at stored (drop c.loop-name.name-index c.args.names.now)) (section_at stored c.name-item.result) (sections_at stored (drop (c.loop-name.name-index + 1) c.args.names.now)) _ _ (g.W.Write.written c.push_stored.new.writer)
    (sections_left stored c.args.names.now c.loop-name.name-index c.name-item.result c.loop-name-test.true c.name-item.is) c.loop-name.invariant c.in_ok-push_stored.ensures.sections c.in_ok-push_stored.ensures.written
