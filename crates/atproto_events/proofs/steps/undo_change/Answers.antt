use Rattle.std.proofs.Common.{◌≡◌, ◌<◌, ◌≤◌, sym, subst, length, take, drop}
use Rattle.atproto_events.specs.Pieces.{pieces}
use Rattle.atproto_events.specs.Undone.{from_entry, EndsBefore, IsNotBefore, IsOfKey}
use Rattle.atproto_events.proofs.Places.{begins_after, of_key_within}
use Rattle.atproto_events.proofs.Stepping.{hidden}
use Rattle.atproto_events.proofs.steps.undo_change.Goals as goal

pub undo_present-requires-clause-bound : goal.undo_present-requires-clause-bound
undo_present-requires-clause-bound c =
    subst (λ x. c.next_entry-at.result < length x) c.deref-4.ensures.value (of_key_within c.deref-5.result.now c.next_entry-at.result c.deref-4.result.now c.if-is_of_key.ensures)

pub returns-then-place-at-clause-refused : goal.returns-then-place-at-clause-refused
returns-then-place-at-clause-refused c =
    let all = c.args.all.now.items in
    let key = c.args.change.now.key.items in
    let place = c.find_place-place.result in
    let at = c.next_entry-at.result in
    let entry = subst (λ x. drop at (pieces x) ≡ from_entry (drop place (pieces x))) c.deref-3.ensures.value c.next_entry-at.ensures.entry in
    let bound = subst (λ x. at ≤ length x) c.deref-3.ensures.value c.next_entry-at.ensures.bound in
    let front = subst (λ k. EndsBefore k (take place (pieces all))) c.deref-2.ensures.value (subst (λ x. EndsBefore c.deref-2.result.now (take place (pieces x))) c.deref.ensures.value c.find_place-place.ensures.front) in
    let rest = subst (λ k. IsNotBefore k (from_entry (drop place (pieces all)))) c.deref-2.ensures.value (subst (λ x. IsNotBefore c.deref-2.result.now (from_entry (drop place (pieces x)))) c.deref.ensures.value c.find_place-place.ensures.rest) in
    let other = subst (λ k. ¬ IsOfKey k at (pieces all)) c.deref-5.ensures.value (subst (λ x. ¬ IsOfKey c.deref-5.result.now at (pieces x)) c.deref-4.ensures.value c.if-is_of_key.ensures) in
    hidden key place at all c.index.result.now c.if-place-at.true bound (sym c.index.ensures) front entry (begins_after key place at (pieces all) entry rest other)

pub undo_absent-requires-clause-rest : goal.undo_absent-requires-clause-rest
undo_absent-requires-clause-rest c =
    let all = c.args.all.now.items in
    let key = c.args.change.now.key.items in
    let place = c.find_place-place.result in
    let at = c.next_entry-at.result in
    let entry = subst (λ x. drop at (pieces x) ≡ from_entry (drop place (pieces x))) c.deref-3.ensures.value c.next_entry-at.ensures.entry in
    let rest = subst (λ k. IsNotBefore k (from_entry (drop place (pieces all)))) c.deref-2.ensures.value (subst (λ x. IsNotBefore c.deref-2.result.now (from_entry (drop place (pieces x)))) c.deref.ensures.value c.find_place-place.ensures.rest) in
    let other = subst (λ k. ¬ IsOfKey k at (pieces all)) c.deref-5.ensures.value (subst (λ x. ¬ IsOfKey c.deref-5.result.now at (pieces x)) c.deref-4.ensures.value c.if-is_of_key.ensures) in
    begins_after key place at (pieces all) entry rest other
