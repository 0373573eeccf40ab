-- The order of a map's keys (DAG-CBOR specification, strictness): the shorter first, and keys of
-- equal length by their bytes.
use Rattle.std.specs.Prelude.{ℕ, Bool, List, length}
use Rattle.std.specs.declared.cmp.Ordering.{Ordering}
use Rattle.std.specs.Ordering.{nat_cmp, ordering_then, is_lt}
use Rattle.std.specs.Cmp.Lexicographic.{slice_cmp}

-- the lexicographic order of bytes
abbrev pub bytes_cmp : List ℕ → List ℕ → Ordering
bytes_cmp = slice_cmp nat_cmp

-- the shorter key first, and keys of equal length by their bytes
abbrev pub key_cmp : List ℕ → List ℕ → Ordering
key_cmp k l = ordering_then (nat_cmp (length k) (length l)) (bytes_cmp k l)

-- whether a key comes before another in a map
abbrev pub comes_before : List ℕ → List ℕ → Bool
comes_before k l = is_lt (key_cmp k l)
