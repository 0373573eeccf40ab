-- A value identified by a number.
use Rattle.std.specs.Prelude.{ℕ, ◌^◌, Option}
use Rattle.serde_ipld_dagcbor.specs.Tree.{Tree}
use Rattle.serde_ipld_dagcbor.specs.Shapes.{Shape, leaf, view_unsigned}
use Rattle.serde_ipld_dagcbor.specs.Collections.{finishing}

-- the value identified by a number from 0 to 2^64 - 1; `None` if there is no such value
abbrev pub told_by_number : {V : Type 0} → (ℕ → Option V) → Shape Tree V
told_by_number told = finishing told (leaf (view_unsigned (2 ^ 64)))
