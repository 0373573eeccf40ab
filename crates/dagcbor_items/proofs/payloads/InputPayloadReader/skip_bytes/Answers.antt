use Rattle.dagcbor_items.proofs.StringItems.{bytes_taken}
use Rattle.dagcbor_items.proofs.Looks.{front_looked}
use Rattle.dagcbor_items.proofs.payloads.InputPayloadReader.skip_bytes.Goals as goal

pub returns-clause-item : goal.returns-clause-item
returns-clause-item g c = (_, bytes_taken _ c.in_ok-pull_peeked_slice.ensures.bytes)

pub returns-clause-looked : goal.returns-clause-looked
returns-clause-looked g c = front_looked c.in_ok-pull_peeked_slice.ensures.looked c.in_ok-pull_peeked_slice.ensures.bytes
