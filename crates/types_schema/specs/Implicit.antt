-- A field that has an implicit value if it is left out (IPLD Schemas, `implicit`). Data that holds
-- that value itself is refused, so that each value has one spelling.
use Rattle.std.specs.Prelude.{Bool, Option, None, Some, if◌then◌else◌}

-- what is made from the field's value, or from the implicit one if it is left out; `eq` is equality
abbrev pub or_implicit : {A B : Type 0} → (A → A → Bool) → A → Option A → (A → Option B) → Option B
or_implicit eq implicit None made = made implicit
or_implicit eq implicit (Some x) made = if eq x implicit then None else made x

-- what is written for the field
abbrev pub unless_implicit : {A : Type 0} → (A → A → Bool) → A → A → Option A
unless_implicit eq implicit x = if eq x implicit then None else Some x
