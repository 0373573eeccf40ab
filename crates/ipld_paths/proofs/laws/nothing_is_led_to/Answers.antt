use Rattle.ipld_paths.proofs.Telling.{nothing_is_led_to}
use Rattle.ipld_paths.proofs.laws.nothing_is_led_to.Goals as goal

pub returns : goal.returns
returns c = nothing_is_led_to
