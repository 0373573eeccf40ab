use Rattle.std.proofs.Common.{inl, inr, refl, arith}
use Rattle.dagcbor_items.specs.Walks.{forms}
use Rattle.program_dagstore.proofs.Rooting.{meant_later, exports_from}
use Rattle.program_dagstore.proofs.export.export_meant.Goals as goal

pub returns-in-Ok-clause-exports : goal.returns-in-Ok-clause-exports
returns-in-Ok-clause-exports g c = inr (
  c.in-Ok.roots.items,
  meant_later (g.S.Store.view c.args.store.now) (g.S.Store.view c.meant_roots.new.store) (g.S.Store.view c.export_blocks.new.store) c.args.given.items c.in-Ok.roots.items (λ clean. omega (arith, c.export_blocks.ensures.quiet.clean)) c.in-Ok.ensures.ok,
  exports_from g.S.Store c.args.store.now c.meant_roots.new.store c.export_blocks.new.store c.meant_roots.ensures.reads.quiet c.in-Ok.ensures.reads.same c.export_blocks.ensures.quiet (forms c.in-Ok.roots.items) _ _ c.export_blocks.result (rw c.deref.ensures.value at c.export_blocks.ensures.exports),
)

pub returns-in-Err-clause-exports : goal.returns-in-Err-clause-exports
returns-in-Err-clause-exports g c = inl (c.in-Err.refusal, refl, c.in-Err.ensures.refused, refl)
