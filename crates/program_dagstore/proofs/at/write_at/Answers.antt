use Rattle.std.proofs.Common.{Ok, Err}
use Rattle.std.proofs.lemmas.Result.{err_from_is_err_and}
use Rattle.ipld_paths.specs.Paths.{segments}
use Rattle.ipld_links.specs.Reaching.{stored_in}
use Rattle.program_parts.specs.Paths.{IsAnswerOf}
use Rattle.program_dagstore.specs.Ways.{IsAnswerIn}
use Rattle.program_dagstore.proofs.Gathering.{answered}
use Rattle.program_parts.proofs.Saying.{both_of}
use Rattle.program_dagstore.proofs.at.write_at.Goals as goal

pub returns-in_err-well-clause-says : goal.returns-in_err-well-clause-says
returns-in_err-well-clause-says g c =
    let path = segments c.args.path.now in
    let held = stored_in c.in_ok-held.held in
    let old = g.S.Store.view c.args.store.now in
    let new = g.S.Store.view c.gather_way.new.store in
    let p = err_from_is_err_and c.from_residual-in_err-well.result c.from_residual-in_err-well.ensures.1 in
    rw (p.1, p.2) (both_of (IsAnswerOf c.asked_of.result c.args.root.now path held) (IsAnswerIn c.args.is_raw c.args.root.now path old new) _ _ (Err c.in_err-well.field-0.0) _ _
    (answered c.args.is_raw c.asked_of.result c.args.root.now path old new held c.asked_of.ensures c.in_ok-held.ensures.held) c.in_err-well.ensures)

pub returns-clause-says : goal.returns-clause-says
returns-clause-says g c =
    let path = segments c.args.path.now in
    let held = stored_in c.in_ok-held.held in
    let old = g.S.Store.view c.args.store.now in
    let new = g.S.Store.view c.gather_way.new.store in
    both_of (IsAnswerOf c.asked_of.result c.args.root.now path held) (IsAnswerIn c.args.is_raw c.args.root.now path old new) _ _ (Ok c.in_ok-well.well) _ _
    (answered c.args.is_raw c.asked_of.result c.args.root.now path old new held c.asked_of.ensures c.in_ok-held.ensures.held) c.in_ok-well.ensures
