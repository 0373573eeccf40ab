use Rattle.store_on_disk.proofs.Images.{what_an_open_leaves_is_taken}
use Rattle.store_on_disk.proofs.laws.what_an_open_leaves_is_taken.Goals as goal

pub returns : goal.returns
returns g c = what_an_open_leaves_is_taken g.D.Disk
