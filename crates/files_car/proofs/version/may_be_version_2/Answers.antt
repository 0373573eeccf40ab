use Rattle.std.proofs.Common.{take}
use Rattle.std.proofs.lemmas.Slice.Eq.{bytes_eq-Decides}
use Rattle.files_car.specs.Versions.{pragma}
use Rattle.files_car.proofs.Starting.{may_be_told}
use Rattle.files_car.proofs.version.may_be_version_2.Goals as goal

pub returns : goal.returns
returns c = may_be_told c.args.bytes.now c.min-count.result c.eq.result c.min-count.ensures (rw c.eq.ensures (bytes_eq-Decides (take c.min-count.result c.args.bytes.now) (take c.min-count.result pragma)))
