-- How many values a stream may still give.
use Rattle.std.specs.Prelude.{ℕ, ◌+◌, Bool, true, false, List, length, Option, None, Some}
use Rattle.std.specs.Iterator.{Count, at_most, endless}

-- no value, if the stream is done; at most n + 1, if n bytes are left; without limit, if the bytes
-- left are not known
abbrev pub items_left_of : Bool → Option (List ℕ) → Count
items_left_of true left = at_most 0
items_left_of false None = endless
items_left_of false (Some b) = at_most (length b + 1)
