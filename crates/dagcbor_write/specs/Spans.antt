-- Entries of a map that are in one buffer.
use Rattle.std.specs.Prelude.{ℕ, ◌≤◌, List, slice_range}
use Rattle.dagcbor_write.specs.declared.collect.gathered.Span.{Span}
use Rattle.dagcbor_write.specs.declared.collect.keyed.KeySpan.{KeySpan}
use Rattle.dagcbor_write.specs.Maps.{Texts}

-- the key and the value at this span of the buffer
abbrev pub entry_at : List ℕ → Span → Texts
entry_at bytes s = (slice_range bytes s.start s.key_end, slice_range bytes s.key_end s.end)

-- the key and the value at this span, one after the other
abbrev pub whole_at : List ℕ → Span → List ℕ
whole_at bytes s = slice_range bytes s.start s.end

-- the ends of the span are in order, and within n bytes
abbrev pub IsWithin : ℕ → Span → Type 0
IsWithin n s = (s.start ≤ s.key_end) × (s.key_end ≤ s.end) × (s.end ≤ n)

-- the key at this span, and its value
abbrev pub keyed_at : {V : Type 0} → List ℕ → KeySpan V → List ℕ × V
keyed_at bytes s = (slice_range bytes s.start s.end, s.value.now)

-- the span ends no earlier than it begins, within n bytes
abbrev pub EndsWithin : {V : Type 0} → ℕ → KeySpan V → Type 0
EndsWithin n s = (s.start ≤ s.end) × (s.end ≤ n)
