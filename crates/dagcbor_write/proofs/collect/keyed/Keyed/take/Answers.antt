use Rattle.std.proofs.Common.{refl, inr, rules, length, lit≤}
use Rattle.dagcbor_write.specs.Maps.{IsKeyMessage}
use Rattle.dagcbor_write.proofs.Keys.{held_range, refused_key}
use Rattle.dagcbor_write.proofs.Refusals.{refused_with}
use Rattle.dagcbor_write.proofs.Spans.{keyed_joins}
use Rattle.dagcbor_write.proofs.collect.keyed.Keyed.take.Goals as goal

pub returns-then-not-begins_text : goal.returns-then-not-begins_text
returns-then-not-begins_text g c =
    let no_text = refused_key (g.K.Serialize.tree c.args.key.now) c.self.inside.keys c.spell_key.new.keys (length c.buffer-start.result.now) c.begins_text.result (search rules) c.in_ok-spell_key.ensures.taken (search rules) (search rules) in
    refused_with c.custom.ensures (lit≤ tt) (IsKeyMessage (g.K.Serialize.tree c.args.key.now)) (inr (refl, no_text))

pub returns : goal.returns
returns g c =
    let key = held_range (g.K.Serialize.tree c.args.key.now) c.self.inside.keys c.spell_key.new.keys (length c.buffer-start.result.now) c.begins_text.result (search rules) c.in_ok-spell_key.ensures.taken (search rules) (length c.buffer-bytes.result.now) (search rules) (search rules) in
    let joined = keyed_joins _ c.self.inside.keys c.spell_key.new.keys c.self.inside.spans.items (record { start = length c.buffer-start.result.now; end = length c.buffer-bytes.result.now; value = c.args.value }) c.in_ok-spell_key.ensures.taken.0 c.self.invariant in
    (_, key, rw (c.in-Ok.ensures.items, ← c.self.view_is) joined)
