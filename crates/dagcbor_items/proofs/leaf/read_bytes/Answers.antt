use Rattle.dagcbor_items.proofs.Looks.{front_looked}
use Rattle.dagcbor_items.proofs.leaf.read_bytes.Goals as goal

pub returns-clause-looked : goal.returns-clause-looked
returns-clause-looked g c = front_looked c.in_ok-pull_peeked_owned_bytes.ensures.looked c.in_ok-pull_peeked_owned_bytes.ensures.bytes
