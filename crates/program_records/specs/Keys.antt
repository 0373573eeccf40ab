-- Keys as words of lines.
use Rattle.std.specs.Prelude.{◌≡◌, ◌≢◌, ◌⊎◌, ℕ, ◌/◌, ◌%◌, ◌==◌, ◌||◌, nat_lt, Bool, List, [], ◌∷◌, codes, slice_index, flat_map, if◌then◌else◌}
use Rattle.text_cid.specs.Alphabets.{AreBytes}

-- an upper-case hexadecimal digit
abbrev pub upper_digit : ℕ → ℕ
upper_digit n = slice_index (codes "0123456789ABCDEF") n

-- a byte that is escaped: outside 0x21 to 0x7e, or `%`, with which escapes begin
abbrev pub is_spelled : ℕ → Bool
is_spelled b = nat_lt b 0x21 || (nat_lt 0x7e b || b == 0x25)

-- `%` and two digits for an escaped byte; any other byte as it is
abbrev pub key_byte : ℕ → List ℕ
key_byte b = if is_spelled b then 0x25 ∷ upper_digit (b / 16) ∷ upper_digit (b % 16) ∷ [] else b ∷ []

abbrev pub key_text : List ℕ → List ℕ
key_text key = flat_map key_byte key

-- The key that a word names: the key with this text, as `records` prints it; or the word itself, if
-- it is not the text of a key.
abbrev pub IsNamedBy : List ℕ → List ℕ → Type 0
IsNamedBy word key = (AreBytes key × (word ≡ key_text key))
    ⊎ (((k : List ℕ) → AreBytes k → word ≢ key_text k) × (key ≡ word))
