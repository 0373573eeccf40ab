use Rattle.std.proofs.Common.{inl, inr, ap, ◌∙◌, subst}
use Rattle.sqlite_trees.specs.View.{IsClean}
use Rattle.ipld_links.specs.Names.{block_name}
use Rattle.ipld_links.specs.Sound.{IsSound}
use Rattle.store_on_disk.specs.Stored.{IsPut, IsAddedTo}
use Rattle.store_on_disk.proofs.Putting.{puts_value, may_leave_value}
use Rattle.store_on_disk.proofs.store.BlockStore.put.Goals as goal

pub returns-in-Ok-put_block-clause-ok : goal.returns-in-Ok-put_block-clause-ok
returns-in-Ok-put_block-clause-ok g c =
    let name = c.name_of_block-name.result in
    puts_value g.S.Store (g.T.Serialize.tree c.args.value.now) c.in-Ok.block.items name c.args.self.now c.put_block.new.self c.in-Ok.ensures.value (c.name_of_block-name.ensures ∙ ap block_name c.deref.ensures.value)
    (subst (λ b. IsSound (name, b) × (IsClean (g.S.Store.view c.put_block.new.self) → IsPut (g.S.Store.view c.args.self.now) (g.S.Store.view c.put_block.new.self) name b)) c.deref-2.ensures.value c.in-Ok-put_block.ensures.ok)

pub returns-in-Ok-put_block-clause-crash : goal.returns-in-Ok-put_block-clause-crash
returns-in-Ok-put_block-clause-crash g c db h = elim (c.put_block.ensures.crash db h) [
  | inl was ↦ inl was
  | inr put ↦ inr (may_leave_value (g.T.Serialize.tree c.args.value.now) c.in-Ok.block.items c.name_of_block-name.result (IsClean (g.S.Store.view c.put_block.new.self)) (g.S.Store.view c.args.self.now).trees db c.in-Ok.ensures.value (c.name_of_block-name.ensures ∙ ap block_name c.deref.ensures.value)
      (subst (λ b. IsClean (g.S.Store.view c.put_block.new.self) → IsAddedTo (g.S.Store.view c.args.self.now).trees db c.name_of_block-name.result b) c.deref-2.ensures.value put))
]

pub returns-clause-crash : goal.returns-clause-crash
returns-clause-crash g c db h = elim (c.put_block.ensures.crash db h) [
  | inl was ↦ inl was
  | inr put ↦ inr (may_leave_value (g.T.Serialize.tree c.args.value.now) c.in-Ok.block.items c.name_of_block-name.result (IsClean (g.S.Store.view c.put_block.new.self)) (g.S.Store.view c.args.self.now).trees db c.in-Ok.ensures.value (c.name_of_block-name.ensures ∙ ap block_name c.deref.ensures.value)
      (subst (λ b. IsClean (g.S.Store.view c.put_block.new.self) → IsAddedTo (g.S.Store.view c.args.self.now).trees db c.name_of_block-name.result b) c.deref-2.ensures.value put))
]
