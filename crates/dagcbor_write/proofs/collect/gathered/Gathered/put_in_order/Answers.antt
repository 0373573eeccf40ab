use Rattle.std.proofs.Common.{◌≡◌, ℕ, List, ◌++◌, length, take, drop, ap, ◌∙◌, arith, rules, drop_of_length-le, append-nil, take_all, All}
use Rattle.dagcbor_write.specs.declared.collect.gathered.Span.{Span}
use Rattle.dagcbor_write.specs.Spans.{IsWithin}
use Rattle.dagcbor_write.proofs.collect.gathered.Gathered.put_in_order.Goals as goal

-- a list whose parts were all put anew
renewed : (n : ℕ) (old new : List Span) → length new ≡ length old → n ≡ length old → take n (new ++ drop (length new) old) ≡ new
renewed n old new h k = ap (λ zs. take n (new ++ zs)) (drop_of_length-le old (omega (arith, h))) ∙ ap (take n) (append-nil new) ∙ take_all n new (omega (arith, h, k))

pub invariant_of-self : goal.invariant_of-self
invariant_of-self c =
    let inside : All (IsWithin (length c.deref.result.now)) c.deref_mut.result.now = rw (c.deref.ensures.value, c.deref_mut.ensures.value) c.self.invariant.0 in
    let within = c.put_in_order.ensures.within inside in
    let all = renewed c.self.inside.spans.len c.self.inside.spans.items c.put_in_order.new.spans (c.put_in_order.ensures.count ∙ ap length c.deref_mut.ensures.value) (search rules) in
    (rw all (rw c.deref.ensures.value at within), c.self.invariant.1)

pub returns-clause-order : goal.returns-clause-order
returns-clause-order c =
    let inside : All (IsWithin (length c.deref.result.now)) c.deref_mut.result.now = rw (c.deref.ensures.value, c.deref_mut.ensures.value) c.self.invariant.0 in
    let order = c.put_in_order.ensures.order inside in
    let all = renewed c.self.inside.spans.len c.self.inside.spans.items c.put_in_order.new.spans (c.put_in_order.ensures.count ∙ ap length c.deref_mut.ensures.value) (search rules) in
    rw (← c.self.view_is, all) (rw (c.deref.ensures.value, c.deref_mut.ensures.value) at order)
