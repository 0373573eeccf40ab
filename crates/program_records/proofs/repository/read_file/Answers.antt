use Rattle.std.proofs.Common.{sym, subst}
use Rattle.dagcbor_items.specs.Walks.{forms}
use Rattle.files_car.specs.Versions.{IsFile}
use Rattle.ipld_links.specs.Reaching.{stored_in}
use Rattle.program_parts.proofs.Known.{if_some}
use Rattle.program_records.proofs.Reading.{read_held}
use Rattle.program_records.proofs.repository.read_file.Goals as goal

pub returns-in_ok-found-in-Ok-Ok : goal.returns-in_ok-found-in-Ok-Ok
returns-in_ok-found-in-Ok-Ok g c = if_some (g.R.Read.remaining c.args.input.now) (rw c.in-Ok-Ok.field-0-is at c.in-Ok-Ok.ensures) (λ b k.
    read_held b c.deref.result.now (stored_in c.in-Ok-Ok.held.blocks) c.in_ok-found-in-Ok-Ok.found (k.0, subst (λ rs. IsFile b (forms rs) k.0) (sym c.deref.ensures.value) k.1, k.2) c.in_ok-found-in-Ok-Ok.ensures)
