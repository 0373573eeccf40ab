use Rattle.std.proofs.Common.{inl, inr, refl, ap, ◌∙◌, subst}
use Rattle.program_parts.specs.declared.take.Ended.TheVariants as ended
use Rattle.program_parts.proofs.Known.{if_some}
use Rattle.program_dagcar.proofs.Finding.{GotOf, got_of, got_whole}
use Rattle.program_dagcar.proofs.get.got.Goals as goal

pub returns-in-Enough : goal.returns-in-Enough
returns-in-Enough g c = if_some (g.R.Read.remaining c.args.input.now) c.in_ok-_roots.ensures (λ b h.
    let k = subst (λ e. GotOf c.args.name.now b e c.take_input.new.sink) (c.in-Stopped.is ∙ ap ended.Stopped c.in-Enough.is) (got_of b _ _ c.in_ok-_roots._roots c.in_ok-_roots.ended h) in
    inl (k.0, k.1, k.2, k.3, k.4, k.5, k.6, refl, c.new-in-Enough.ensures.items))

pub returns-in_ok-line-in-Whole : goal.returns-in_ok-line-in-Whole
returns-in_ok-line-in-Whole g c = if_some (g.R.Read.remaining c.args.input.now) c.in_ok-_roots.ensures (λ b h.
    let k = subst (λ e. GotOf c.args.name.now b e c.take_input.new.sink) c.in-Whole.is (got_of b _ _ c.in_ok-_roots._roots c.in_ok-_roots.ended h) in
    inr (refl, c.new-in-Whole.ensures.items, inl (k.0, k.1, k.2, k.3, got_whole c.args.name.now b _ c.in_ok-line-in-Whole.ensures)))

pub returns-in-Fault : goal.returns-in-Fault
returns-in-Fault g c = if_some (g.R.Read.remaining c.args.input.now) c.in_ok-_roots.ensures (λ b h.
    inr (refl, c.new-in-Fault.ensures.items, inr (subst (λ e. GotOf c.args.name.now b e c.take_input.new.sink) c.in-Fault.is (got_of b _ _ c.in_ok-_roots._roots c.in_ok-_roots.ended h))))
