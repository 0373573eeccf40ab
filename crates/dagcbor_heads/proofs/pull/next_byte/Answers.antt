use Rattle.dagcbor_heads.proofs.Taking.{byte_taken}
use Rattle.dagcbor_heads.proofs.Looking.{byte_looked}
use Rattle.dagcbor_heads.proofs.pull.next_byte.Goals as goal

pub returns-in-Some-clause-taken : goal.returns-in-Some-clause-taken
returns-in-Some-clause-taken g c = let shown = rw c.in-Some.is at c.in_ok-byte.ensures.found in byte_taken shown.0 c.advance.ensures

pub returns-in-Some-clause-looked : goal.returns-in-Some-clause-looked
returns-in-Some-clause-looked g c =
    let shown = rw c.in-Some.is at c.in_ok-byte.ensures.found in byte_looked c.in_ok-byte.ensures.looked c.advance.ensures (byte_taken shown.0 c.advance.ensures)
