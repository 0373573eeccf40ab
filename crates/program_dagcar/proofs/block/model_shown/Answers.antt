use Rattle.std.proofs.Common.{inr, subst}
use Rattle.program_parts.specs.Shown.{IsShown}
use Rattle.ipld_paths.proofs.Reading.{no_node_of}
use Rattle.program_dagcar.proofs.Shown.{some_bytes, model_said}
use Rattle.program_dagcar.proofs.block.model_shown.Goals as goal

pub returns-in_ok-shown-in-Ok : goal.returns-in_ok-shown-in-Ok
returns-in_ok-shown-in-Ok c = model_said c.args.bytes.now c.in-Ok.block.items (some_bytes c.args.bytes.now c.if-is_empty.ensures) (rw c.in-Ok.is at c.in_ok-block.ensures) _ _ _ (subst (λ b. IsShown b c.in_ok-shown-in-Ok.field-0.0.1 c.in_ok-shown-in-Ok.field-0.0.0.items c.in_ok-shown-in-Ok.field-0.1.items) c.deref.ensures.value c.in_ok-shown-in-Ok.ensures)

pub returns-in-Err : goal.returns-in-Err
returns-in-Err c = inr (λ t h. no_node_of c.args.bytes.now _ t (rw c.in-Err.is at c.in_ok-block.ensures) h)
