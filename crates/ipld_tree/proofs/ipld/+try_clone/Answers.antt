use Rattle.std.proofs.Common.{◌∙◌}
use Rattle.std.specs.List.{each_same}
use Rattle.ipld_tree.proofs.Trees.{next_entry_tree, bytes_copied}
use Rattle.ipld_tree.proofs.ipld.+try_clone.Goals as goal

pub Ipld::try_clone-returns-in_ok-clone-in-Bytes-clause-same : goal.Ipld::try_clone-returns-in_ok-clone-in-Bytes-clause-same
Ipld::try_clone-returns-in_ok-clone-in-Bytes-clause-same t c = bytes_copied c.args.self.now c.in-Bytes.bytes c.in_ok-clone-in-Bytes.field-0 c.in-Bytes.is (each_same _ _ c.in_ok-clone-in-Bytes.ensures.cases.0)

pub clone_entries-loop-key-preserved : goal.clone_entries-loop-key-preserved
clone_entries-loop-key-preserved t c =
    next_entry_tree (c.in-Some.key.now, c.in-Some.value.now) c.in_ok-name.name c.in_ok-try_clone.field-0 c.args.entries.now.entries _ _ _ _ _
    c.in-Some.ensures.steps (c.into_iter-key-iterator.ensures.into_iter_gives ∙ c.iter-key-items.ensures.rest) c.iter-key-items.ensures.ordered
    c.in_ok-name.ensures.cases c.in_ok-try_clone.ensures.same c.in_ok-insert.ensures.entries c.loop-key.invariant
