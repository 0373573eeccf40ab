use Rattle.std.proofs.Common.{refl}
use Rattle.types_serde.proofs.laws.links_are_links.Goals as goal

pub returns : goal.returns
returns c = λ cid. refl
