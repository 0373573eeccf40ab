-- What callers in other languages get.
use Rattle.std.specs.Prelude.{◌≡◌, ℕ, ◌-◌, ◌^◌, ◌≤◌, min, ℤ, negsuc, List, [], length, Option, None, Some}
use Rattle.ipld_tree.specs.Tree.{Tree}
use Rattle.dagcbor_decode.specs.Decode.{Decoded, got, refused, decode, decode_first}
use Rattle.abi_calls.specs.Codes.{check_code, decoded_code}
use Rattle.abi_calls.specs.Packed.{packed_links}
use Rattle.lent_memory.specs.Puts.{with_front}
use Rattle.abi_calls.specs.CidTexts.{room_code}
use Rattle.abi_calls.specs.Tapes.{tape_of, with_tokens, decoded_tape}
use Rattle.abi_calls.specs.Told.{tape_told}
use Rattle.abi_calls.specs.Standing.{AreFrontTokens, end_of}
use Rattle.abi_calls.specs.declared.tape.Token.{Token}

-- the packed links of what is decoded, or none if that is refused
abbrev pub packed_of : Decoded Tree → List ℕ
packed_of (got t rest) = packed_links t
packed_of (refused why left) = []

-- the answer about the links of the first item: the number, how many bytes they need, packed, and
-- the memory after the call
abbrev pub links_answer : List ℕ → List ℕ → ℤ × ℕ × List ℕ
links_answer b old =
    (decoded_code (decode_first b), length (packed_of (decode_first b)), with_front (packed_of (decode_first b)) old)

-- the answer about a tape: the number, how many tokens are needed, and the tape after the call
abbrev pub tape_answer : List ℕ → List Token → ℤ × ℕ × List Token
tape_answer b old = decoded_tape tape_of (decode b) old

-- The number is that of what is decoded, and `place` is where its reading ends. The tokens before
-- that end are counted, and put at the front of the tape if they all fit. There are no more tokens
-- than bytes.
pub record IsTokensAnswer (b : List ℕ) (old new : List Token) (needed place : ℕ)
    (code : ℤ) : Type 0 where
  pub told : code ≡ check_code b
  pub ends : place ≡ end_of b (decode b)
  pub tokens : List Token
  pub stand : AreFrontTokens b (decode b) tokens
  pub counted : needed ≡ length tokens
  pub few : needed ≤ place
  pub put : new ≡ with_tokens tokens old

-- If a token is invalid, the number is -20, and no bytes are needed. Else the bytes are counted; if
-- they fit, they are put at the front of the memory, and the number is that of what they decode to;
-- if not, it is -21. If nothing is put, the memory stays.
abbrev pub told_answer : Option (List ℕ) → List ℕ → ℤ × ℕ × List ℕ
told_answer None old = (negsuc 19, 0, old)
told_answer (Some s) old =
    (room_code (check_code s) s old, min (length s) (2 ^ 64 - 1), with_front s old)

-- the answer about the bytes that a tape encodes: the number, how many bytes are needed, and the
-- memory after the call
abbrev pub spell_answer : List ℕ → List Token → List ℕ → ℤ × ℕ × List ℕ
spell_answer b tape old = told_answer (tape_told b tape) old
