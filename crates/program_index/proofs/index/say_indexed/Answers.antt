use Rattle.std.proofs.Common.{subst, OnOk, Ok, true, rules, refl}
use Rattle.program_index.proofs.Sending.{sent_so, err_ok, both_known}
use Rattle.program_index.proofs.index.say_indexed.Goals as goal

pub returns-in_err-send_between : goal.returns-in_err-send_between
returns-in_err-send_between g c = both_known (g.S.ReadAt.bytes c.args.source.now) c.in_ok-parts.ensures c.send_between.ensures (λ b are h.
    sent_so b c.args.found.now c.in_ok-parts.parts _ _ c.send_between.result c.from_residual-in_err-send_between.result c.deref.result.now c.deref-2.result.now (search rules) (search rules) are h (λ Q _. err_ok Q _ c.from_residual-in_err-send_between.result c.from_residual-in_err-send_between.ensures.1) (search rules))

pub returns : goal.returns
returns g c = both_known (g.S.ReadAt.bytes c.args.source.now) c.in_ok-parts.ensures c.send_between.ensures (λ b are h.
    sent_so b c.args.found.now c.in_ok-parts.parts _ _ c.send_between.result (Ok true) c.deref.result.now c.deref-2.result.now (search rules) (search rules) are h (λ Q so. subst (λ r. OnOk r Q) c.in_ok-send_between.was so) refl)
