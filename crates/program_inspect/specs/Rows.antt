-- For each number, how many blocks have it, and their total length.
use Rattle.std.specs.Prelude.{ℕ, ◌+◌, List, [], ◌∷◌}
use Rattle.std.specs.Option.{unwrap_or}
use Rattle.std.specs.Ordering.{nat_cmp}
use Rattle.std.specs.BTreeMap.{insert_entry, is_at}
use Rattle.std.specs.Map.{lookup}
use Rattle.program_inspect.specs.declared.rows.Row.{Row}

-- the row of no blocks
abbrev pub no_row : Row
no_row = record { count = 0; bytes = 0 }

-- the row with one more block, `bytes` long
abbrev pub joins : ℕ → Row → Row
joins bytes row = record { count = row.count + 1; bytes = row.bytes + bytes }

-- the row of a number
abbrev pub row_at : ℕ → List (ℕ × Row) → Row
row_at number rows = unwrap_or (lookup (is_at (nat_cmp number)) rows) no_row

-- the rows after a block of this number and length
abbrev pub counts_in : List (ℕ × Row) → ℕ → ℕ → List (ℕ × Row)
counts_in rows number bytes = insert_entry nat_cmp rows number (joins bytes (row_at number rows))

-- the rows after blocks of these numbers and lengths
abbrev pub counts_all : List (ℕ × Row) → List (ℕ × ℕ) → List (ℕ × Row)
counts_all rows [] = rows
counts_all rows (p ∷ ps) = counts_all (counts_in rows p.0 p.1) ps

-- For each number, in order: how many blocks have it, and their total length.
abbrev pub rows_of : List (ℕ × ℕ) → List (ℕ × Row)
rows_of ps = counts_all [] ps
