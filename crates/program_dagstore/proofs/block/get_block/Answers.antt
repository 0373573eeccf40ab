use Rattle.std.proofs.Common.{inl, inr, refl, true, false, [], Ok, Err}
use Rattle.std.proofs.lemmas.Result.{err_from_is_err_and}
use Rattle.program_parts.proofs.Saying.{both_said}
use Rattle.program_dagstore.specs.Blocks.{IsGotBlock}
use Rattle.program_dagstore.specs.Lines.{no_block_line}
use Rattle.program_dagstore.proofs.block.get_block.Goals as goal

pub returns-in_err-well-in-Ok-Some-clause-says : goal.returns-in_err-well-in-Ok-Some-clause-says
returns-in_err-well-in-Ok-Some-clause-says g c =
    let p = err_from_is_err_and c.from_residual.result c.from_residual.ensures.1 in
    rw (p.1, p.2) (both_said (IsGotBlock c.args.name.now (g.S.Store.view c.args.store.now) (g.S.Store.view c.get_block.new.self)) c.in-Ok-Some.block.items [] true _ _ (Err c.in_err-well-in-Ok-Some.field-0.0) _ _
    (inl (rw c.in-Ok-Some.field-0-is at c.in-Ok-Some.ensures.verified, rw c.in-Ok-Some.field-0-is at c.in-Ok-Some.ensures.found, refl, refl)) c.in_err-well-in-Ok-Some.ensures)

pub returns-in_err-well-in-Ok-None-clause-says : goal.returns-in_err-well-in-Ok-None-clause-says
returns-in_err-well-in-Ok-None-clause-says g c =
    let p = err_from_is_err_and c.from_residual-in_err-well-in-Ok-None.result c.from_residual-in_err-well-in-Ok-None.ensures.1 in
    rw (p.1, p.2) (both_said (IsGotBlock c.args.name.now (g.S.Store.view c.args.store.now) (g.S.Store.view c.get_block.new.self)) c.new.result.items no_block_line false _ _ (Err c.in_err-well-in-Ok-None.field-0.0) _ _
    (inr (rw c.in-Ok-None.field-0-is at c.in-Ok-None.ensures.found, refl, c.new.ensures.items, refl)) c.in_err-well-in-Ok-None.ensures)

pub returns-in_ok-well-in-Ok-None-clause-says : goal.returns-in_ok-well-in-Ok-None-clause-says
returns-in_ok-well-in-Ok-None-clause-says g c =
    both_said (IsGotBlock c.args.name.now (g.S.Store.view c.args.store.now) (g.S.Store.view c.get_block.new.self)) c.new.result.items no_block_line false _ _ (Ok c.in_ok-well-in-Ok-None.well) _ _
    (inr (rw c.in-Ok-None.field-0-is at c.in-Ok-None.ensures.found, refl, c.new.ensures.items, refl)) c.in_ok-well-in-Ok-None.ensures
