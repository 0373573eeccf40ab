use Rattle.std.proofs.Common.{rules, [], ◌≡◌, subst}
use Rattle.ipld_links.specs.Names.{IsInline}
use Rattle.store_on_disk.specs.Trees.{WritesNames, NamesUnwritten}
use Rattle.store_on_disk.proofs.Trees.{none_there, some_there, tree_lost, tree_written, tree_refused}
use Rattle.store_on_disk.proofs.store.BlockStore.write_tree.Goals as goal
use Rattle.store_on_disk.proofs.store.BlockStore.write_tree.Goals.{else-is_empty-via-then-is_empty+else-hash_code-ne-IDENTITY, else-is_empty-via-else-is_empty}

pub returns-then-hash_code-ne-IDENTITY-clause-refused : goal.returns-then-hash_code-ne-IDENTITY-clause-refused
returns-then-hash_code-ne-IDENTITY-clause-refused g c =
    let other : IsInline c.args.root.now → ⊥ = search rules in
    tree_lost g.S.Store c.args.root.now c.args.self.now c.reach.new.self c.in-Ok.reached c.reach.ensures.reads.quiet c.in-Ok.ensures.reads.same c.in-Ok.ensures.reached g.row.W-Error.Denot (g.W.Write.written c.args.writer.now)
    (none_there c.in-Ok.reached.found c.if-is_empty.ensures) other

pub returns-in-Ok-push_tree-clause-ok : goal.returns-in-Ok-push_tree-clause-ok
returns-in-Ok-push_tree-clause-ok g c =
    let either : c.in-Ok.reached.found.items ≡ [] → IsInline c.args.root.now = elim c.else-is_empty.branch [
      | else-is_empty-via-then-is_empty+else-hash_code-ne-IDENTITY w ↦ λ none. search rules
      | else-is_empty-via-else-is_empty w ↦ λ none. absurd (some_there c.in-Ok.reached.found w.if-is_empty.ensures none)
    ] in
    tree_written g.S.Store c.args.root.now c.args.self.now c.reach.new.self c.in-Ok.reached c.reach.ensures.reads.quiet c.in-Ok.ensures.reads.same c.in-Ok.ensures.reached c.push_tree.new.self (g.W.Write.written c.args.writer.now) (g.W.Write.written c.push_tree.new.writer) c.push_tree.ensures.quiet either
    (subst (λ names. WritesNames g.S.Store c.args.root.now names c.reach.new.self (g.W.Write.written c.args.writer.now) (g.W.Write.written c.push_tree.new.writer) c.push_tree.new.self) c.deref.ensures.value c.in-Ok-push_tree.ensures.ok)

pub returns-clause-refused : goal.returns-clause-refused
returns-clause-refused g c =
    let either : c.in-Ok.reached.found.items ≡ [] → IsInline c.args.root.now = elim c.else-is_empty.branch [
      | else-is_empty-via-then-is_empty+else-hash_code-ne-IDENTITY w ↦ λ none. search rules
      | else-is_empty-via-else-is_empty w ↦ λ none. absurd (some_there c.in-Ok.reached.found w.if-is_empty.ensures none)
    ] in
    tree_refused g.S.Store c.args.root.now c.args.self.now c.reach.new.self c.in-Ok.reached c.reach.ensures.reads.quiet c.in-Ok.ensures.reads.same c.in-Ok.ensures.reached c.push_tree.new.self (g.W.Write.written c.args.writer.now) (g.W.Write.written c.push_tree.new.writer) c.push_tree.ensures.quiet either
    c.in-Err-push_tree.error (subst (λ names. NamesUnwritten g.S.Store c.args.root.now names c.reach.new.self (g.W.Write.written c.args.writer.now) c.in-Err-push_tree.error (g.W.Write.written c.push_tree.new.writer) c.push_tree.new.self) c.deref.ensures.value c.in-Err-push_tree.ensures.refused)
