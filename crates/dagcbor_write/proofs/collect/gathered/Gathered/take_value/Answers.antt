use Rattle.std.proofs.Common.{sym, ap, ◌∙◌, rules, arith, length}
use Rattle.dagcbor_write.proofs.Lengths.{grows}
use Rattle.dagcbor_write.proofs.Spans.{entries_kept, key_within, spans_within, value_joins}
use Rattle.dagcbor_write.proofs.collect.gathered.Gathered.take_value.Goals as goal

pub invariant_of-self-2 : goal.invariant_of-self-2
invariant_of-self-2 g c =
    let more = grows (g.V.Serialize.tree c.args.value.now) c.self.inside.bytes.items c.append.new.bytes.items c.in_ok-append.ensures.taken in
    let start = key_within c.self.inside.key c.in-Some.start (length c.self.inside.bytes.items) c.self.invariant.1 (sym c.take.ensures.value ∙ c.in-Some.is) in
    let all = spans_within (length c.self.inside.bytes.items) (length c.append.new.bytes.items) c.self.inside.spans.items (record { start = c.in-Some.start; key_end = c.len-key_end.result; end = c.len-end.result }) c.self.invariant.0 (omega (arith, more)) (omega (arith, start, c.len-key_end.ensures), omega (arith, more, c.len-key_end.ensures, c.len-end.ensures), omega (arith, c.len-end.ensures)) in
    (rw c.in-Ok.ensures.items all, rw c.take.ensures.after tt)

pub returns-in-Err-clause-kept : goal.returns-in-Err-clause-kept
returns-in-Err-clause-kept g c = rw c.in-Err.ensures.items (entries_kept _ _ _ _ c.in_ok-append.ensures.taken.0 c.self.invariant.0 ∙ ap (λ h. h.entries) c.self.view_is)

pub returns-clause-entry : goal.returns-clause-entry
returns-clause-entry g c =
    let joins = value_joins (g.V.Serialize.tree c.args.value.now) c.self.inside.bytes.items c.append.new.bytes.items c.self.inside.spans.items c.self.inside.key (record { start = c.in-Some.start; key_end = c.len-key_end.result; end = c.len-end.result })
    c.in_ok-append.ensures.taken c.self.invariant.0 c.self.invariant.1 (sym c.take.ensures.value ∙ c.in-Some.is) (search rules) (search rules) in
    rw (c.in-Ok.ensures.items, ← c.self.view_is) joins
