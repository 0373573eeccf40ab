use Rattle.dagcbor_items.proofs.Keys.{found_refused}
use Rattle.dagcbor_items.proofs.key.read_key.Goals as goal

pub returns-in-Some-Err-clause-key : goal.returns-in-Some-Err-clause-key
returns-in-Some-Err-clause-key g c =
    found_refused {E = g.row.R-Error.Denot} _ _ _ c.in-Some-Err.field-0 c.in-Some-Err.payload
    c.no_key.result c.in-Some-Err.field-0-is c.in-Some-Err.ensures.key (rw c.in-Some-Err.payload-is at c.no_key.ensures)
