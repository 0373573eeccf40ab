-- How deep a call may go.
use Rattle.std.specs.Prelude.{ℕ}

-- the default budget of steps into items
abbrev pub default_steps : ℕ
default_steps = 256
