-- What identifies a union's member, if the member's fields are in the same map.
use Rattle.std.specs.Prelude.{Option, None, Some}

-- a field must be there, and the result is made from its value
abbrev pub there : {A B : Type 0} → Option A → (A → Option B) → Option B
there None made = None
there (Some x) made = made x

-- a field must be absent
abbrev pub absent : {A B : Type 0} → Option A → Option B → Option B
absent None made = made
absent (Some x) made = None
