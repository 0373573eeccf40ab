use Rattle.std.proofs.Common.{arith, sym, ◌∙◌}
use Rattle.sqlite_trees.specs.View.{IsClean}
use Rattle.ipld_links.proofs.Members.{any_among}
use Rattle.store_on_disk.proofs.Marking.{not_in}
use Rattle.store_on_disk.proofs.Sweeping.{taken_same}
use Rattle.store_on_disk.proofs.store.BlockStore.sweep_next.Goals as goal

pub returns-then-contains-clause-ok : goal.returns-then-contains-clause-ok
returns-then-contains-clause-ok g c clean = (
  (rw c.in-Some.is at c.in_ok-name.ensures.next) clean,
  (any_among c.in-Some.name c.args.kept.now.keys (sym c.contains.ensures ∙ c.if-contains.true), c.in_ok-name.ensures.reads.same clean),
)

pub returns-clause-ok : goal.returns-clause-ok
returns-clause-ok g c clean =
    let mid : IsClean (g.S.Store.view c.next_name.new.self) = omega (arith, c.remove.ensures.quiet.clean) in
    let next = (rw c.in-Some.is at c.in_ok-name.ensures.next) mid in (
      next,
      (
        not_in c.args.kept.now c.in-Some.name (sym c.contains.ensures ∙ c.if-contains.false),
        taken_same (g.S.Store.view c.args.self.now) (g.S.Store.view c.next_name.new.self) (g.S.Store.view c.remove.new.self) c.in-Some.name c.in_ok-_was_listed._was_listed (c.in_ok-name.ensures.reads.same mid) next.listed (c.in_ok-_was_listed.ensures.ok clean),
      ),
    )
