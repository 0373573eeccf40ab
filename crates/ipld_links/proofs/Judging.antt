-- Verdicts on blocks under their names, by those on their bytes.
use Rattle.ipld_links.specs.Blocks.{NamedBlock}
use Rattle.ipld_links.specs.Verdicts.{IsVerified, IsVerdictOn, IsVerdict}
use Rattle.ipld_links.specs.declared.verdict.Verdict.{Verdict}
use Rattle.ipld_links.specs.declared.verdict.Verdict.TheVariants.{Block, Refused, Node, NoNode, NotRead, LinksNotRead, OtherBytes, Unverified}

pub verdict_of : (s : NamedBlock) (v : Verdict) → IsVerified s → IsVerdictOn s.0.codec s.1 v → IsVerdict s v
verdict_of s (Block kind) h k = (h, k)
verdict_of s (Refused e) h k = (h, k)
verdict_of s Node h k = (h, k)
verdict_of s (NoNode e) h k = (h, k)
verdict_of s NotRead h k = (h, k)
verdict_of s LinksNotRead h k = (h, k)
verdict_of s OtherBytes h k = absurd k
verdict_of s Unverified h k = absurd k
