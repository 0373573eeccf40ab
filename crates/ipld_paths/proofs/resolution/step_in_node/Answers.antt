use Rattle.std.proofs.Common.{inr, subst, sym}
use Rattle.ipld_paths.specs.Resolving.{IsReadUnder}
use Rattle.ipld_paths.proofs.resolution.step_in_node.Goals as goal

pub returns-in-Ok : goal.returns-in-Ok
returns-in-Ok c = λ all name under is pb. c.step_at.ensures all name (subst (IsReadUnder all name) (sym c.deref.ensures.value) (c.args.node.now, under, is, inr (pb, rw c.in-Ok.is at c.in_ok-block.ensures)))
