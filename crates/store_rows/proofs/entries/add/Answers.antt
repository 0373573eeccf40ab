use Rattle.std.proofs.Common.{arith, rules, to_z-of_z, SFits, w64}
use Rattle.sqlite_trees.specs.View.{IsClean}
use Rattle.store_rows.proofs.Steps.{renewed, appended}
use Rattle.store_rows.proofs.Causes.{only_reads, too_long_as}
use Rattle.store_rows.proofs.Ending.{as_writes, then_ends}
use Rattle.store_rows.proofs.entries.add.Goals as goal

pub returns-in-Some-clause-ok : goal.returns-in-Some-clause-ok
returns-in-Some-clause-ok g c =
    let old = g.S.Store.view c.args.store.now in
    let mid = g.S.Store.view c.find.new.store in
    renewed c.renew.result _ old.trees mid.trees (g.S.Store.view c.renew.new.store).trees c.in-Some.id c.args.name.now c.args.bytes.now
    (λ clean.
    let was : IsClean mid = omega (arith, c.renew.ensures.ends.quiet.clean) in
    ((only_reads old mid (c.in_ok-id.ensures.ends.frame was)).1, rw c.in-Some.is at (c.in_ok-id.ensures.ok was)))
    (let fits : SFits w64 c.in-Some.id = search rules in simp to_z-of_z at c.renew.ensures.ok)

pub returns-in-None-clause-ok : goal.returns-in-None-clause-ok
returns-in-None-clause-ok g c =
    let old = g.S.Store.view c.args.store.now in
    let mid = g.S.Store.view c.find.new.store in
    appended c.append.result _ old.trees mid.trees (g.S.Store.view c.append.new.store).trees c.args.name.now c.args.bytes.now
    (λ clean.
    let was : IsClean mid = omega (arith, c.append.ensures.ends.quiet.clean) in
    ((only_reads old mid (c.in_ok-id.ensures.ends.frame was)).1, rw c.in-None.is at (c.in_ok-id.ensures.ok was)))
    c.append.ensures.ok

pub returns-in-Some-clause-ends : goal.returns-in-Some-clause-ends
returns-in-Some-clause-ends g c =
    let found = as_writes g.S.Store c.args.store.now c.find.new.store c.in_ok-id.ensures.ends in
    then_ends g.S.Store c.args.store.now c.find.new.store c.renew.new.store c.renew.result found (too_long_as c.args.name.now c.args.bytes.now (g.S.Store.view c.args.store.now) (g.S.Store.view c.find.new.store) found.schema) c.renew.ensures.ends

pub returns-in-None-clause-ends : goal.returns-in-None-clause-ends
returns-in-None-clause-ends g c =
    let found = as_writes g.S.Store c.args.store.now c.find.new.store c.in_ok-id.ensures.ends in
    then_ends g.S.Store c.args.store.now c.find.new.store c.append.new.store c.append.result found (too_long_as c.args.name.now c.args.bytes.now (g.S.Store.view c.args.store.now) (g.S.Store.view c.find.new.store) found.schema) c.append.ensures.ends
