use Rattle.std.proofs.Common.{sym, ap, ◌∙◌, arith}
use Rattle.std.specs.Prelude.{is_some}
use Rattle.atproto_events.proofs.Places.{entry_here, entry_later}
use Rattle.atproto_events.proofs.pieces.next_entry.Goals as goal

pub returns-then-is_some-clause-entry : goal.returns-then-is_some-clause-entry
returns-then-is_some-clause-entry c =
    entry_here c.loop-at.at c.args.all.now c.index-all-at.result c.loop-at-test.true (sym c.index-all-at.is) (ap (λ p. is_some p.key) c.index-all-at.is ∙ sym c.is_some.ensures ∙ c.if-is_some.true) ∙ c.loop-at.invariant.skipped

pub loop-at-preserved : goal.loop-at-preserved
loop-at-preserved c = record {
  after = omega (arith, c.loop-at.invariant.after);
  bound = omega (arith, c.loop-at-test.true);
  skipped = entry_later c.loop-at.at c.args.all.now c.index-all-at.result c.loop-at-test.true (sym c.index-all-at.is) (ap (λ p. is_some p.key) c.index-all-at.is ∙ sym c.is_some.ensures ∙ c.if-is_some.false) ∙ c.loop-at.invariant.skipped;
}
