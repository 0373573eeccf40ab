use Rattle.ipld_links.specs.Reaching.{stored_in}
use Rattle.program_records.proofs.Telling.{if_ok}
use Rattle.program_records.proofs.CommitTelling.{proof_of_first, no_proof_said}
use Rattle.program_records.proofs.proof.proof_of.Goals as goal

pub returns-in-Ok : goal.returns-in-Ok
returns-in-Ok c = if_ok c.proof_said.result c.proof_said.ensures (λ p h.
    proof_of_first c.args.key.now (stored_in c.args.held.now.blocks) c.args.held.now.roots.items c.in-Ok.found.0 c.in-Ok.found.1 p.0.1 p.0.0.items p.1.items (rw c.in-Ok.is at c.in_ok-found.ensures) h)

pub returns-in-Err : goal.returns-in-Err
returns-in-Err c = no_proof_said c.args.key.now (stored_in c.args.held.now.blocks) c.args.held.now.roots.items c.in-Err.line.items c.told_alone.result.0.1 c.told_alone.result.0.0.items c.told_alone.result.1.items (rw c.in-Err.is at c.in_ok-found.ensures) c.told_alone.ensures
