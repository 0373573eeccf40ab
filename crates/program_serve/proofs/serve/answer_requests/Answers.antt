use Rattle.std.proofs.Common.{[], ◌∷◌, ◌++◌, refl}
use Rattle.std.proofs.KnownBytes.{Appends-nil}
use Rattle.program_serve.proofs.Serving.{answers_next, exchanged_next}
use Rattle.program_serve.proofs.serve.answer_requests.Goals as goal

pub loop-count-init : goal.loop-count-init
loop-count-init g c = ([], (refl, refl), Appends-nil (g.W.Write.contents c.args.answers.now))

pub loop-count-preserved : goal.loop-count-preserved
loop-count-preserved g c =
    let h = c.loop-count.invariant in
    let k = rw c.in-None.is at c.in_ok-pause.ensures in
    (h.0 ++ k.0 ∷ [], exchanged_next g.S.Store h.0 k.0 _ _ _ c.args.store.now c.loop-count.store c.serve_one.new.store h.1 k.1, answers_next _ _ _ h.0 k.0 h.2 k.2)
