-- Lengths in refusals.
use Rattle.std.specs.Prelude.{ℕ, ◌^◌, nat_lt, if◌then◌else◌}
use Rattle.dagcbor_core.specs.declared.error.Len.{Len}
use Rattle.dagcbor_core.specs.declared.error.Len.TheVariants.{Small, Big}

-- a length as a refusal holds it: `Small` below 2 ^ 16, else `Big`
abbrev pub len_of : ℕ → Len
len_of n = if nat_lt n (2 ^ 16) then Small n else Big
