use Rattle.std.proofs.Common.{◌^◌, refl, sym, ◌∙◌, rules, Some, codes}
use Rattle.dagcbor_read.specs.Shapes.{view_unsigned, leaf}
use Rattle.serde_ipld_dagcbor.specs.ByHand.{map_begun, map_key_refused, at_value, map_value_refused, value_read, skip_refused, value_skipped, map_ended, other_name, handed_on, value_finished, value_unfinished}
use Rattle.tests_types.specs.One.{one_fields}
use Rattle.tests_types.proofs.tests.by_hand.one_by_loop.read_one_by_loop.Goals as goal
use Rattle.tests_types.proofs.tests.by_hand.one_by_loop.read_one_by_loop.Goals.{in-a+in_ok-next_value-in-a, in_default-as_str+in_ok-next_value-in_default-as_str}

pub loop-entries-init : goal.loop-entries-init
loop-entries-init g c = map_begun one_fields.fields one_fields.unread _ _ _ (codes "map") _ c.in_ok-entries.ensures.begun

pub returns-in_err-key : goal.returns-in_err-key
returns-in_err-key g c = handed_on _ _ _ _ _ _ _ _ c.from_residual-in_err-key.ensures.1 (λ _. map_key_refused _ _ _ _ _ _ _ c.loop-entries.invariant c.in_err-key.ensures.key)

pub returns-in_err-next_value-in-a : goal.returns-in_err-next_value-in-a
returns-in_err-next_value-in-a g c =
    let at = at_value _ _ _ _ _ _ _ _ c.loop-entries.invariant c.in-Some.is c.in_ok-key.ensures.key c.in_ok-key.ensures.after in
    handed_on _ _ _ _ _ _ _ _ c.from_residual-in_err-next_value-in-a.ensures.1
    (λ _. map_value_refused _ _ _ _ _ _ _ (codes "a") (λ a. (Some a, tt)) _ _ _ at (sym c.as_str.ensures.value ∙ c.in-a.is) (λ t. refl) (λ t. refl) (λ l. l) (λ lends x. absurd (cc x)) c.in_err-next_value-in-a.ensures.value)

pub returns-in_err-next_value-in_default-as_str : goal.returns-in_err-next_value-in_default-as_str
returns-in_err-next_value-in_default-as_str g c =
    let at = at_value _ _ _ _ _ _ _ _ c.loop-entries.invariant c.in-Some.is c.in_ok-key.ensures.key c.in_ok-key.ensures.after in
    handed_on _ _ _ _ _ _ _ _ c.from_residual-in_err-next_value-in_default-as_str.ensures.1
    (λ _. skip_refused _ _ _ _ _ _ _ _ at (λ t. search (rules, other_name)) (λ t. search (rules, other_name)) c.in_err-next_value-in_default-as_str.ensures.value)

pub loop-entries-preserved-after-as_str : goal.loop-entries-preserved-after-as_str
loop-entries-preserved-after-as_str g c =
    let at = at_value _ _ _ _ _ _ _ _ c.loop-entries.invariant c.in-Some.is c.in_ok-key.ensures.key c.in_ok-key.ensures.after in
    elim c.match-as_str.branch [
      | in-a+in_ok-next_value-in-a w ↦ rw (w.a-is, w.entries-is, w.de-is) (value_read _ _ _ _ (leaf (view_unsigned (2 ^ 8))) (codes "a") (λ a. (Some a, tt)) _ _ _ _ at (sym c.as_str.ensures.value ∙ w.in-a.is) (λ t. refl) (λ t. refl) refl w.in_ok-next_value-in-a.ensures.after w.in_ok-next_value-in-a.ensures.value)
      | in_default-as_str+in_ok-next_value-in_default-as_str w ↦
          rw (w.a-is, w.entries-is, w.de-is) (value_skipped _ _ _ _ _ _ _ at (λ t. search (rules, other_name)) (λ t. search (rules, other_name)) w.in_ok-next_value-in_default-as_str.ensures.after w.in_ok-next_value-in_default-as_str.ensures.value)
    ]

pub loop-entries-preserved : goal.loop-entries-preserved
loop-entries-preserved g c =
    let at = at_value _ _ _ _ _ _ _ _ c.loop-entries.invariant c.in-Some.is c.in_ok-key.ensures.key c.in_ok-key.ensures.after in
    elim c.match-as_str.branch [
      | in-a+in_ok-next_value-in-a w ↦ rw (w.a-is, w.entries-is, w.de-is) (value_read _ _ _ _ (leaf (view_unsigned (2 ^ 8))) (codes "a") (λ a. (Some a, tt)) _ _ _ _ at (sym c.as_str.ensures.value ∙ w.in-a.is) (λ t. refl) (λ t. refl) refl w.in_ok-next_value-in-a.ensures.after w.in_ok-next_value-in-a.ensures.value)
      | in_default-as_str+in_ok-next_value-in_default-as_str w ↦
          rw (w.a-is, w.entries-is, w.de-is) (value_skipped _ _ _ _ _ _ _ at (λ t. search (rules, other_name)) (λ t. search (rules, other_name)) w.in_ok-next_value-in_default-as_str.ensures.after w.in_ok-next_value-in_default-as_str.ensures.value)
    ]

pub returns-in-Some-a : goal.returns-in-Some-a
returns-in-Some-a g c = value_finished _ _ (λ _. map_ended _ _ _ _ _ _ _ _ _ c.loop-entries.invariant c.in_default.is c.in_ok-key.ensures.key c.in_ok-key.ensures.after c.in_ok-end.ensures) (search rules)

pub returns-in-None : goal.returns-in-None
returns-in-None g c = value_unfinished _ _ _ (c.custom.ensures.0, c.custom.ensures.1) (search rules) (λ _. map_ended _ _ _ _ _ _ _ _ _ c.loop-entries.invariant c.in_default.is c.in_ok-key.ensures.key c.in_ok-key.ensures.after c.in_ok-end.ensures)
