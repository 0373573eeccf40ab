-- If changes are undone on the pieces of a tree, they lead from the root computed from these.
use Rattle.std.proofs.Common.{List, [], ◌∷◌, refl, sym, subst}
use Rattle.atproto_mst.specs.Keys.{Entry, HaveRisingKeys}
use Rattle.atproto_mst.specs.Changes.{Changed}
use Rattle.atproto_events.specs.Pieces.{PieceParts, Fills}
use Rattle.atproto_events.specs.Doing.{DoesAll, UndoesAll}
use Rattle.atproto_events.specs.Undone.{StepsBackAll}
use Rattle.atproto_events.specs.Laws.{UndoneRight}
use Rattle.atproto_events.proofs.Filling.{steps_undo}
use Rattle.atproto_events.proofs.Opened.{opened_fill}
use Rattle.atproto_events.proofs.Named.{named_right}

all_undone : (cs : List Changed) (ps qs : List PieceParts) (es : List Entry) → StepsBackAll cs ps qs → Fills ps es → HaveRisingKeys es
    → (before : List Entry) × Fills qs before × HaveRisingKeys before × DoesAll cs before es × UndoesAll cs es before
all_undone [] ps qs es s f r = (es, subst (λ x. Fills x es) (sym s) f, r, refl, refl)
all_undone (c ∷ cs) ps qs es (between, all, one) f r =
    let w = all_undone cs ps between es all f r in
    let u = steps_undo c between qs w.0 one w.1 w.2 in
    (u.0, u.1, u.2, (w.0, u.3, w.3), (w.0, w.4, u.4))

pub undone_right : UndoneRight
undone_right stored root old cs ps qs opened steps named es whole bind =
    let w = all_undone cs ps qs es steps (opened_fill stored root ps es opened whole bind) (whole.0.keys, whole.0.rise) in
    (w.0, w.2, named_right qs old w.0 named w.1, w.3, w.4)
