use Rattle.std.proofs.Common.{Some, [], ◌∷◌, sym, subst}
use Rattle.serde_ipld_dagcbor.specs.Cid.{cid_bytes}
use Rattle.serde_ipld_dagcbor.specs.Written.{Stops}
use Rattle.files_car.specs.Car.{car_bytes}
use Rattle.ipld_links.specs.Reaching.{ListsReachable, stored_in}
use Rattle.files_car.specs.Reached.{sections_at}
use Rattle.dagcbor_blocks.specs.Blocks.{held_blocks}
use Rattle.dagcbor_blocks.specs.Reaching.{stored}
use Rattle.dagcbor_blocks.proofs.Reaching.{tree_written, tree_faulted, tree_lacks}
use Rattle.dagcbor_blocks.proofs.store.Blocks.write_tree.Goals as goal

pub returns-in-Ok-push_tree : goal.returns-in-Ok-push_tree
returns-in-Ok-push_tree g c =
    tree_written c.args.self.now.blocks c.args.root.now (rw c.if-not-may_lead.false at c.may_lead.ensures) c.deref.result.now (subst (ListsReachable (stored (held_blocks c.args.self.now)) c.args.root.now) (sym c.deref.ensures.value) c.in-Ok.ensures)
    (g.W.Write.written c.args.writer.now) (g.W.Write.written c.push_tree.new.writer) c.in-Ok-push_tree.ensures.written c.in-Ok-push_tree.ensures.is_car

pub returns-in-Write : goal.returns-in-Write
returns-in-Write g c =
    tree_faulted c.args.self.now.blocks c.args.root.now (rw c.if-not-may_lead.false at c.may_lead.ensures) c.deref.result.now (subst (ListsReachable (stored (held_blocks c.args.self.now)) c.args.root.now) (sym c.deref.ensures.value) c.in-Ok.ensures)
    g.W.Write.takes_memory (g.W.Write.written c.args.writer.now) (g.W.Write.written c.push_tree.new.writer) c.in-Write.fault
    (subst (λ e. Stops (Some (car_bytes (cid_bytes c.args.root.now ∷ []) (sections_at (stored_in c.args.self.now.blocks) c.deref.result.now))) (g.W.Write.written c.args.writer.now) (g.W.Write.written c.push_tree.new.writer) e) c.in-Write.is c.in-Err.ensures.written)

pub returns : goal.returns
returns g c =
    tree_lacks c.args.self.now.blocks c.args.root.now (rw c.if-not-may_lead.false at c.may_lead.ensures) c.deref.result.now (subst (ListsReachable (stored (held_blocks c.args.self.now)) c.args.root.now) (sym c.deref.ensures.value) c.in-Ok.ensures)
    (Unit {0}) g.W.Write.takes_memory (g.W.Write.written c.args.writer.now) (g.W.Write.written c.push_tree.new.writer) c.in-Err.error c.in_default-error.not-Write c.in-Err.ensures.written c.in-Err.ensures.unsent
