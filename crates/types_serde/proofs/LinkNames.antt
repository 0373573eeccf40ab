-- The one name of a link.
use Rattle.std.proofs.Common.{refl, codes}
use Rattle.serde.specs.declared.name.Case.TheVariants.{Kebab}
use Rattle.dagcbor_write.proofs.Spans.{same_bytes}
use Rattle.types_serde.specs.Links.{FieldsAreNoLinks}

pub only_link_names : FieldsAreNoLinks
only_link_names name Kebab h = (same_bytes name (codes "/") h, refl)
only_link_names name _ h = absurd (cc h)
