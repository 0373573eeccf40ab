-- The tape of a block in tokens of three numbers below 2 ^ 32.
use Rattle.std.specs.Prelude.{ℕ, ◌/◌, ◌%◌, ◌^◌, ◌||◌, ◌&&◌, ◌==◌, ℤ, negsuc, Bool, true, List, [], ◌∷◌, length, map, take, drop, if◌then◌else◌, nat_lt}
use Rattle.ipld_tree.specs.Tree.{Tree}
use Rattle.dagcbor_decode.specs.Decode.{decode}
use Rattle.abi_calls.specs.Tapes.{token, tape_of, decoded_tape}
use Rattle.abi_calls.specs.declared.tape.Token.{Token}
use Rattle.abi_calls.specs.declared.compact.CompactToken.{CompactToken}

-- a compact token of these parts
abbrev pub compact_token : ℕ → ℕ → ℕ → CompactToken
compact_token kind number place = record { kind = kind; number = number; place = place }

-- each byte is below 0x80
abbrev pub are_ascii : List ℕ → Bool
are_ascii [] = true
are_ascii (b ∷ bs) = nat_lt b 0x80 && are_ascii bs

-- the kind of a token: 9 for a text of ASCII alone, and else its own
abbrev pub compact_kind : ℕ → List ℕ → ℕ
compact_kind kind payload = if (kind == 3) && are_ascii payload then 9 else kind

-- the kind is that of an integer, of either sign
abbrev pub is_integer_kind : ℕ → Bool
is_integer_kind kind = (kind == 2) || (kind == 8)

-- The compact token for a token of these bytes: for an integer, the low and the high half of its
-- number; for others, its number and its place.
abbrev pub compact : List ℕ → Token → CompactToken
compact b t = if is_integer_kind t.kind
    then compact_token t.kind (t.number % 2 ^ 32) (t.number / 2 ^ 32)
    else compact_token (compact_kind t.kind (take t.number (drop t.place b))) t.number t.place

-- the compact tape of a block
abbrev pub compact_tape_of : List ℕ → Tree → List CompactToken
compact_tape_of b t = map (compact b) (tape_of t)

-- the answer for fewer than 2 ^ 32 bytes has their compact tape; for as many or more it is -21 and
-- no token, and the tape stays
abbrev pub compact_tape_answer : List ℕ → List CompactToken → ℤ × ℕ × List CompactToken
compact_tape_answer b old = if nat_lt (length b) (2 ^ 32)
    then decoded_tape (compact_tape_of b) (decode b) old else (negsuc 20, 0, old)

-- ---- parts

-- the token with each part reduced to 32 bits, except an integer's number
abbrev pub wrapped_as : ℕ → Token → Token
wrapped_as kind t = token kind (if is_integer_kind kind then t.number else t.number % 2 ^ 32)
    (t.place % 2 ^ 32)

abbrev pub wrapped : Token → Token
wrapped t = wrapped_as (t.kind % 2 ^ 32) t
