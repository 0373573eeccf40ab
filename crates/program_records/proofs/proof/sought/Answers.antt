use Rattle.ipld_links.specs.Reaching.{stored_in}
use Rattle.program_records.proofs.CommitTelling.{refused_so}
use Rattle.program_records.proofs.proof.sought.Goals as goal

pub returns-in_err-found-clause-refused : goal.returns-in_err-found-clause-refused
returns-in_err-found-clause-refused c = refused_so (stored_in c.args.blocks.now) c.args.key.now c.args.tree.now c.from_residual-in_err-found.result c.in_err-found.field-0.0 c.from_residual-in_err-found.ensures.1 c.in_err-found.ensures.refused
