use Rattle.std.proofs.Common.{inl, inr, subst, IfOk, IfErr}
use Rattle.std.proofs.lemmas.Result.{err_from_is_err_and}
use Rattle.ipld_links.specs.Reaching.{stored_in}
use Rattle.atproto_mst.specs.Changes.{changes}
use Rattle.atproto_events.specs.Pieces.{pieces}
use Rattle.atproto_events.specs.Naming.{NamesRoot, RootFault}
use Rattle.atproto_events.proofs.Placing.{tree_placed}
use Rattle.atproto_events.proofs.Undoing.{root_led, root_unnamed}
use Rattle.atproto_events.proofs.undo.undo_changes.Goals as goal

pub undo_all-requires : goal.undo_all-requires
undo_all-requires c = tree_placed (stored_in c.args.blocks.now) c.args.root.now (pieces c.in_ok-all.all.items) c.in_ok-all.ensures.opened

pub returns-in_err-all-clause-refused : goal.returns-in_err-all-clause-refused
returns-in_err-all-clause-refused c =
    let p = err_from_is_err_and c.from_residual.result c.from_residual.ensures.1 in
    rw (p.1, p.2) (inl c.in_err-all.ensures.refused)

pub returns-in_err-undo_all-clause-refused : goal.returns-in_err-undo_all-clause-refused
returns-in_err-undo_all-clause-refused c =
    let p = err_from_is_err_and c.from_residual-in_err-undo_all.result c.from_residual-in_err-undo_all.ensures.1 in
    rw (p.1, p.2) (inr (pieces c.in_ok-all.all.items, c.in_ok-all.ensures.opened, inl c.in_err-undo_all.ensures.refused))

pub returns-clause-undone : goal.returns-clause-undone
returns-clause-undone c =
    root_led c.root_of_pieces.result (stored_in c.args.blocks.now) c.args.root.now (changes c.args.done.now) (pieces c.in_ok-all.all.items) (pieces c.undo_all.new.all.items)
    c.in_ok-all.ensures.opened c.in_ok-undo_all.ensures.undone
    (subst (λ x. IfOk c.root_of_pieces.result (NamesRoot (pieces x))) c.deref.ensures.value c.root_of_pieces.ensures.named)

pub returns-clause-refused : goal.returns-clause-refused
returns-clause-refused c =
    root_unnamed c.root_of_pieces.result (stored_in c.args.blocks.now) c.args.root.now (changes c.args.done.now) (pieces c.in_ok-all.all.items) (pieces c.undo_all.new.all.items)
    c.in_ok-all.ensures.opened c.in_ok-undo_all.ensures.undone
    (subst (λ x. IfErr c.root_of_pieces.result (RootFault (pieces x))) c.deref.ensures.value c.root_of_pieces.ensures.refused)
