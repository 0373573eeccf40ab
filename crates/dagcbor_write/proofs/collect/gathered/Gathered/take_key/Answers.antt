use Rattle.std.proofs.Common.{refl, inr, ap, ◌∙◌, rules, lit≤}
use Rattle.dagcbor_write.specs.Maps.{IsKeyMessage}
use Rattle.dagcbor_write.proofs.Keys.{held_key, refused_key}
use Rattle.dagcbor_write.proofs.Refusals.{refused_with}
use Rattle.dagcbor_write.proofs.Spans.{entries_kept}
use Rattle.dagcbor_write.proofs.collect.gathered.Gathered.take_key.Goals as goal

pub returns-then-begins_text-clause-entries : goal.returns-then-begins_text-clause-entries
returns-then-begins_text-clause-entries g c = entries_kept _ _ _ _ c.in_ok-append.ensures.taken.0 c.self.invariant.0 ∙ ap (λ h. h.entries) c.self.view_is

pub returns-then-begins_text-clause-key : goal.returns-then-begins_text-clause-key
returns-then-begins_text-clause-key g c = held_key (g.K.Serialize.tree c.args.key.now) c.self.inside.bytes.items _ _ _ (search rules) c.in_ok-append.ensures.taken (rw c.deref.ensures.value at c.begins_text.ensures) c.if-begins_text.true

pub returns-else-begins_text-clause-entries : goal.returns-else-begins_text-clause-entries
returns-else-begins_text-clause-entries g c = entries_kept _ _ _ _ c.in_ok-append.ensures.taken.0 c.self.invariant.0 ∙ ap (λ h. h.entries) c.self.view_is

pub returns-else-begins_text-clause-key : goal.returns-else-begins_text-clause-key
returns-else-begins_text-clause-key g c = refused_with c.custom.ensures (lit≤ tt) (IsKeyMessage (g.K.Serialize.tree c.args.key.now)) (inr (refl, refused_key (g.K.Serialize.tree c.args.key.now) c.self.inside.bytes.items _ _ _ (search rules) c.in_ok-append.ensures.taken (rw c.deref.ensures.value at c.begins_text.ensures) c.if-begins_text.false))
