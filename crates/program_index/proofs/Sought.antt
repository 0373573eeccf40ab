-- A section that is looked for.
use Rattle.std.proofs.Common.{◌≡◌, refl}
use Rattle.files_car.specs.Car.{Section}
use Rattle.ipld_links.specs.Verdicts.{IsVerified, IsVerdict}
use Rattle.ipld_links.specs.declared.verdict.Verdict.{Verdict}
use Rattle.ipld_links.specs.declared.verdict.Verdict.TheVariants as verdicts

pub verified_of : (s : Section) (v : Verdict) → IsVerdict s v → (v ≡ verdicts.OtherBytes → ⊥) → (v ≡ verdicts.Unverified → ⊥) → IsVerified s
verified_of s (verdicts.Block kind) h other none = h.0
verified_of s (verdicts.Refused e) h other none = h.0
verified_of s verdicts.NotRead h other none = h.0
verified_of s verdicts.LinksNotRead h other none = h.0
verified_of s verdicts.Node h other none = h.0
verified_of s (verdicts.NoNode e) h other none = h.0
verified_of s verdicts.OtherBytes h other none = absurd (other refl)
verified_of s verdicts.Unverified h other none = absurd (none refl)
