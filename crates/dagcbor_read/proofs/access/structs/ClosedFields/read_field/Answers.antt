use Rattle.std.proofs.Common.{refl}
use Rattle.dagcbor_read.proofs.Handing.{says}
use Rattle.dagcbor_read.proofs.access.structs.ClosedFields.read_field.Goals as goal

pub returns-clause-refuses : goal.returns-clause-refuses
returns-clause-refuses g c = (says c.custom.ensures, refl)
