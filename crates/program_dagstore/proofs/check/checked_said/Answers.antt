use Rattle.std.proofs.Common.{inr, arith}
use Rattle.sqlite_trees.specs.View.{IsClean}
use Rattle.program_dagstore.proofs.Missing.{judged_checked, judged_missing}
use Rattle.program_dagstore.proofs.check.checked_said.Goals as goal

pub returns-in-Ok-Some-clause-said : goal.returns-in-Ok-Some-clause-said
returns-in-Ok-Some-clause-said g c =
    let mid = g.S.Store.view c.get_block.new.self in
    let new = g.S.Store.view c.judged_said.new.store in
    let was : IsClean new → IsClean mid = λ clean. omega (arith, c.judged_said.ensures.reads.quiet.clean) in
    judged_checked (g.S.Store.view c.args.store.now) mid new c.args.name.now c.in-Ok-Some.block.items c.deref.result.now c.judged_said.result c.deref.ensures.value (rw c.in-Ok-Some.field-0-is at c.in-Ok-Some.ensures.verified) was c.in-Ok-Some.ensures.reads.same
    (rw c.in-Ok-Some.field-0-is at c.in-Ok-Some.ensures.found) c.judged_said.ensures.said

pub returns-in-Ok-Some-clause-missing : goal.returns-in-Ok-Some-clause-missing
returns-in-Ok-Some-clause-missing g c =
    let mid = g.S.Store.view c.get_block.new.self in
    let new = g.S.Store.view c.judged_said.new.store in
    let was : IsClean new → IsClean mid = λ clean. omega (arith, c.judged_said.ensures.reads.quiet.clean) in
    judged_missing (g.S.Store.view c.args.store.now) mid new c.args.name.now c.in-Ok-Some.block.items c.deref.result.now c.args.missing.now c.judged_said.new.missing c.judged_said.result c.deref.ensures.value (rw c.in-Ok-Some.field-0-is at c.in-Ok-Some.ensures.verified) was c.in-Ok-Some.ensures.reads.same
    (rw c.in-Ok-Some.field-0-is at c.in-Ok-Some.ensures.found) c.judged_said.ensures.missing

pub returns-in_ok-damaged_said-in-Ok-None-clause-said : goal.returns-in_ok-damaged_said-in-Ok-None-clause-said
returns-in_ok-damaged_said-in-Ok-None-clause-said g c = λ listed. inr (
  (λ clean. absurd ((rw c.in-Ok-None.field-0-is at c.in-Ok-None.ensures.found) clean (listed clean))),
  c.in_ok-damaged_said-in-Ok-None.ensures.well,
  c.in_ok-damaged_said-in-Ok-None.ensures.line,
)

pub returns-in_ok-damaged_said-in-Err-Damaged-clause-said : goal.returns-in_ok-damaged_said-in-Err-Damaged-clause-said
returns-in_ok-damaged_said-in-Err-Damaged-clause-said g c = λ listed. inr (
  (λ clean. ((rw c.in-Err-Damaged.field-0-is at c.in-Err-Damaged.ensures.refused).1 clean).0),
  c.in_ok-damaged_said-in-Err-Damaged.ensures.well,
  c.in_ok-damaged_said-in-Err-Damaged.ensures.line,
)
