use Rattle.std.proofs.Common.{◌≡◌, ◌++◌, inr, refl, sym, ◌∙◌}
use Rattle.std.proofs.lemmas.Result.{err_from_is_err_and}
use Rattle.program_serve.specs.Replies.{reply_text}
use Rattle.program_serve.specs.Serving.{Exchange}
use Rattle.program_serve.proofs.Serving.{exchanged_one, whole_sent}
use Rattle.program_serve.proofs.serve.serve_one.Goals as goal

pub returns-in_err-text-in-Request : goal.returns-in_err-text-in-Request
returns-in_err-text-in-Request g c =
    let e = exchanged_one g.S.Store c.in-Request.request c.hear.new.block.items c.deref.result.now c.reply_to-reply.result _ _ c.args.store.now c.reply_to-reply.new.store c.deref.ensures.value (rw c.in-Request.is at c.in_ok-pause.ensures.heard) c.reply_to-reply.ensures.replies c.reply_to-reply.ensures.leaves in
    let x : Exchange = record { request = c.in-Request.request; block = c.hear.new.block.items; reply = c.reply_to-reply.result } in
    let p = err_from_is_err_and c.from_residual-in_err-text-in-Request.result c.from_residual-in_err-text-in-Request.ensures.1 in
    rw (p.1, p.2, c.in_err-text-in-Request.ensures.memory) (inr (x, e, refl))

pub returns-in_err-write_all-in-Request : goal.returns-in_err-write_all-in-Request
returns-in_err-write_all-in-Request g c =
    let e = exchanged_one g.S.Store c.in-Request.request c.hear.new.block.items c.deref.result.now c.reply_to-reply.result _ _ c.args.store.now c.reply_to-reply.new.store c.deref.ensures.value (rw c.in-Request.is at c.in_ok-pause.ensures.heard) c.reply_to-reply.ensures.replies c.reply_to-reply.ensures.leaves in
    let x : Exchange = record { request = c.in-Request.request; block = c.hear.new.block.items; reply = c.reply_to-reply.result } in
    let w = c.in_err-write_all-in-Request.ensures.written in
    let is : reply_text c.reply_to-reply.result ≡ w.0 ++ w.1 = sym c.in_ok-text-in-Request.ensures.ok ∙ sym c.deref-in-Request.ensures.value ∙ w.2 in
    let p = err_from_is_err_and c.from_residual-in_err-write_all-in-Request.result c.from_residual-in_err-write_all-in-Request.ensures.1 in
    rw (p.1, p.2, c.in_err-write_all-in-Request.ensures.fault) (x, e, (w.0, w.1, is, w.3))

pub returns-in_ok-write_all-in-Request : goal.returns-in_ok-write_all-in-Request
returns-in_ok-write_all-in-Request g c =
    let e = exchanged_one g.S.Store c.in-Request.request c.hear.new.block.items c.deref.result.now c.reply_to-reply.result _ _ c.args.store.now c.reply_to-reply.new.store c.deref.ensures.value (rw c.in-Request.is at c.in_ok-pause.ensures.heard) c.reply_to-reply.ensures.replies c.reply_to-reply.ensures.leaves in
    let x : Exchange = record { request = c.in-Request.request; block = c.hear.new.block.items; reply = c.reply_to-reply.result } in
    let w = c.in_ok-write_all-in-Request.ensures.written in
    let is : reply_text c.reply_to-reply.result ≡ w.0 ++ w.1 = sym c.in_ok-text-in-Request.ensures.ok ∙ sym c.deref-in-Request.ensures.value ∙ w.2 in
    (x, e, whole_sent _ _ w.0 w.1 (reply_text c.reply_to-reply.result) is w.4 w.3)
