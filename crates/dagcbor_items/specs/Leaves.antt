-- How typed reads of leaves decode bytes, in the words of `Decode.antt`. The name says what is
-- being read.
use Rattle.std.specs.Prelude.{ℕ, ℤ, ◌/◌, ◌==◌, ◌||◌, List, [], ◌∷◌, length, Bool, true, false, Option, None, Some, nat_lt, if◌then◌else◌, codes, chars}
use Rattle.dagcbor_core.specs.Lengths.{len_of}
use Rattle.ipld_tree.specs.Tree.{Tree}
use Rattle.dagcbor_decode.specs.Decode.{Decoded, got, refused, eof, mismatch, unsupported, msg, cast_overflow, after, argument_of, payload, utf8_of, link_of}
use Rattle.dagcbor_items.specs.Shapes.{number_of, only}

-- ---- heads and strings

-- the major type and the argument of a head whose major type is from low to high
abbrev pub head_at : List ℕ → (low high : ℕ) → List ℕ → Decoded (ℕ × ℕ)
head_at name low high [] = refused (eof name (len_of 1)) 0
head_at name low high (first ∷ b) =
    if nat_lt (first / 32) low || nat_lt high (first / 32) then refused (mismatch name first) (length b)
    else after (argument_of name first b) (λ n. got (first / 32, n))

-- the bytes of a string of this major type
abbrev pub string_at : List ℕ → ℕ → List ℕ → Decoded (List ℕ)
string_at name kind b = after (head_at name kind kind b) (λ h. payload name h.1)

abbrev pub text_at : List ℕ → List ℕ → Decoded (List ℕ)
text_at name b = after (string_at name 3 b) (utf8_of name)

-- the character of a text, which must have exactly one
abbrev pub one_char : Option ℕ → List ℕ → Decoded ℕ
one_char (Some c) rest = got c rest
one_char None rest = refused (msg (codes "Char must be one character")) (length rest)

abbrev pub char_at : List ℕ → Decoded ℕ
char_at b = after (text_at (codes "string") b) (λ s. one_char (only (chars s)))

-- ---- numbers

-- the name of a number among items of any kind, by its major type
abbrev pub number_name : ℕ → List ℕ
number_name major = if major == 0 then codes "u64" else codes "any"

-- what a type makes of a number, if the number is in its range
abbrev pub in_range : {V : Type 0} → List ℕ → Option V → List ℕ → Decoded V
in_range name (Some v) rest = got v rest
in_range name None rest = refused (cast_overflow name) (length rest)

abbrev pub number_at : {V : Type 0} → List ℕ → (ℤ → Option V) → List ℕ → Decoded V
number_at name accepted b = after (head_at name 0 1 b) (λ h. in_range name (accepted (number_of h.0 h.1)))

-- the head of a number of any size. The tag of a bignum is refused (RFC 8949, section 3.4.3)
abbrev pub big_head_at : List ℕ → List ℕ → Decoded (ℕ × ℕ)
big_head_at name [] = head_at name 0 1 []
big_head_at name (first ∷ b) =
    if (first == 0xc2) || (first == 0xc3) then refused (unsupported name first) (length b)
    else head_at name 0 1 (first ∷ b)

abbrev pub big_number_at : {V : Type 0} → List ℕ → (ℤ → Option V) → List ℕ → Decoded V
big_number_at name accepted b = after (big_head_at name b) (λ h. in_range name (accepted (number_of h.0 h.1)))

-- ---- other leaves

-- the wanted byte: a missing byte is refused under `name`, a different byte under `other`
abbrev pub byte_at : (name other : List ℕ) → ℕ → List ℕ → Decoded (Unit {0})
byte_at name other wanted [] = refused (eof name (len_of 1)) 0
byte_at name other wanted (found ∷ b) =
    if found == wanted then got tt b else refused (mismatch other found) (length b)

abbrev pub bool_at : List ℕ → Decoded Bool
bool_at [] = refused (eof (codes "bool") (len_of 1)) 0
bool_at (found ∷ b) =
    if found == 0xf4 then got false b else if found == 0xf5 then got true b
    else refused (mismatch (codes "bool") found) (length b)

abbrev pub link_at : List ℕ → Decoded Tree
link_at [] = refused (eof (codes "tag head") (len_of 1)) 0
link_at (first ∷ b) = link_of first b
