use Rattle.std.proofs.Common.{rules, ap, ◌∙◌, ◌++◌}
use Rattle.dagcbor_write.specs.declared.collect.gathered.Span.{Span}
use Rattle.types_serde.proofs.Closing.{pushed_on, all_pushed}
use Rattle.types_serde.proofs.entries.push_entries.Goals as goal
use Rattle.dagcbor_write.specs.Spans.{whole_at}

pub loop-i-preserved : goal.loop-i-preserved
loop-i-preserved c =
    let none : Span = record { start = 0; key_end = 0; end = 0 } in
    pushed_on (whole_at c.args.bytes.now) c.args.spans.now c.loop-i.i none c.loop-i.out.items c.push.new.out.items _ (search rules) c.loop-i.invariant (c.in_ok-push.ensures.appended ∙ ap (λ v. c.loop-i.out.items ++ v) (c.entry_bytes.ensures none))

pub returns-clause-appended : goal.returns-clause-appended
returns-clause-appended c = all_pushed (whole_at c.args.bytes.now) c.args.spans.now c.loop-i.i _ _ (search rules) c.loop-i.invariant
