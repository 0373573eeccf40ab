use Rattle.std.proofs.Common.{inl, inr, refl, arith, rules}
use Rattle.sqlite_trees.specs.View.{IsClean}
use Rattle.program_dagstore.proofs.Rooting.{meant_later, keeps_then, collects_from}
use Rattle.program_dagstore.proofs.change.collect_meant.Goals as goal

pub returns-else-is_empty-clause-says : goal.returns-else-is_empty-clause-says
returns-else-is_empty-clause-says g c =
    let old = g.S.Store.view c.args.store.now in
    let mid = g.S.Store.view c.meant_roots.new.store in
    let new = g.S.Store.view c.collect_blocks.new.store in
    inr (inr (
      c.in-Ok.roots.items,
      search rules,
      meant_later old mid new c.args.given.items c.in-Ok.roots.items (λ clean. omega (arith, c.collect_blocks.ensures.kept.clean)) c.in-Ok.ensures.ok,
      collects_from g.S.Store c.args.store.now c.meant_roots.new.store c.collect_blocks.new.store c.meant_roots.ensures.reads.quiet c.in-Ok.ensures.reads.same c.in-Ok.roots.items _ _ c.collect_blocks.result (λ clean. omega (arith, c.collect_blocks.ensures.kept.clean)) (rw c.deref.ensures.value at c.collect_blocks.ensures.says),
      refl,
    ))

pub returns-else-is_empty-clause-crash : goal.returns-else-is_empty-clause-crash
returns-else-is_empty-clause-crash g c db h =
    let old = g.S.Store.view c.args.store.now in
    let mid = g.S.Store.view c.meant_roots.new.store in
    let new = g.S.Store.view c.collect_blocks.new.store in
    elim (c.collect_blocks.ensures.crash db h) [
      | inl was ↦ inl (c.meant_roots.ensures.reads.quiet.outcomes db was)
      | inr kept ↦ inr (λ clean.
          let then : IsClean mid = omega (arith, c.collect_blocks.ensures.kept.clean) in (
            c.in-Ok.roots.items,
            search rules,
            meant_later old mid new c.args.given.items c.in-Ok.roots.items (λ clean. omega (arith, c.collect_blocks.ensures.kept.clean)) c.in-Ok.ensures.ok,
            keeps_then g.S.Store c.args.store.now c.meant_roots.new.store c.collect_blocks.new.store c.meant_roots.ensures.reads.quiet c.in-Ok.ensures.reads.same c.in-Ok.roots.items db then (rw c.deref.ensures.value at kept clean),
          ))
    ]
