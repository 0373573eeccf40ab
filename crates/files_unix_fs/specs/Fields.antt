-- Messages of protocol buffers (encoding): the field at the front of bytes
-- and the bytes after it, or why there is none.
use Rattle.std.specs.Prelude.{ℕ, zero, suc, ◌+◌, ◌*◌, ◌%◌, ◌==◌, nat_lt, List, [], ◌∷◌, ◌++◌, length, take, drop, if◌then◌else◌, Result, Ok, Err}
use Rattle.files_unix_fs.specs.declared.error.UnixFsCause.{UnixFsCause}
use Rattle.files_unix_fs.specs.declared.error.UnixFsCause.TheVariants.{Truncated, InvalidVarint, UnexpectedField}

-- a part that is read at the front of bytes, and the bytes after it
abbrev pub Front : Type 0 → Type 0
Front A = Result (A × List ℕ) UnixFsCause

-- a part, and then what is read from the bytes after it
abbrev pub after : {A B : Type 0} → Front A → (A → List ℕ → Result B UnixFsCause) → Result B UnixFsCause
after (Ok (a, rest)) f = f a rest
after (Err cause) f = Err cause

-- ---- numbers ("Base 128 varints")

-- groups of seven bits, the lowest first, with the high bit on all but the last; at most `more`
-- follow the first one, and of the tenth only the lowest bit is below 2 ^ 64
unfoldable pub groups_of : ℕ → List ℕ → Front ℕ
groups_of more [] = Err Truncated
groups_of zero (group ∷ b) = if nat_lt group 2 then Ok (group, b) else Err InvalidVarint
groups_of (suc more) (group ∷ b) = if nat_lt group 128 then Ok (group, b)
    else after (groups_of more b) λ n rest. Ok (group % 128 + 128 * n, rest)

unfoldable pub varint_of : List ℕ → Front ℕ
varint_of = groups_of 9

-- ---- fields ("Message structure"): a tag, which is eight times the field's number plus its wire
-- type, and a value

pub data Value : Type 0 where
  number : ℕ → Value
  bytes : List ℕ → Value

-- the first n bytes, and the bytes after them
abbrev pub bytes_of : ℕ → List ℕ → Front (List ℕ)
bytes_of n b = if nat_lt (length b) n then Err Truncated else Ok (take n b, drop n b)

abbrev pub held_of : ℕ → List ℕ → Front Value
held_of n b = after (bytes_of n b) λ s rest. Ok (bytes s, rest)

-- by the wire type: 0 a number, 1 eight bytes, 2 a number and as many bytes, 5 four bytes
unfoldable pub value_of : ℕ → List ℕ → Front Value
value_of tag b =
    if tag % 8 == 0 then after (varint_of b) (λ n rest. Ok (number n, rest))
    else if tag % 8 == 1 then held_of 8 b
    else if tag % 8 == 2 then after (varint_of b) held_of
    else if tag % 8 == 5 then held_of 4 b
    else Err (UnexpectedField tag)

unfoldable pub field_of : List ℕ → Front (ℕ × Value)
field_of b = after (varint_of b) λ tag inner. after (value_of tag inner) λ value rest. Ok ((tag, value), rest)

-- ---- picking from fields

abbrev pub found_with : {A : Type 0} → (ℕ × Value → List A) → Front (ℕ × Value) → (List ℕ → List A) → List A
found_with pick (Ok (field, rest)) more = pick field ++ more rest
found_with pick (Err cause) more = []

-- picks from the fields in these bytes, up to where no field begins; as many steps as bytes are
-- enough, because a field has at least one byte
unfoldable pub found_from : {A : Type 0} → (ℕ × Value → List A) → ℕ → List ℕ → List A
found_from pick zero b = []
found_from pick (suc steps) b = found_with pick (field_of b) (found_from pick steps)

unfoldable pub found_in : {A : Type 0} → (ℕ × Value → List A) → List ℕ → List A
found_in pick b = found_from pick (length b) b
