use Rattle.store_on_disk.proofs.Images.{what_is_left_is_taken, what_is_held_is_taken}
use Rattle.store_on_disk.proofs.laws.what_is_left_is_taken.Goals as goal

pub returns : goal.returns
returns g c = record { crash = what_is_left_is_taken g.D.Disk; end = what_is_held_is_taken g.D.Disk g.met.D.Disk.seen_may_stay }
