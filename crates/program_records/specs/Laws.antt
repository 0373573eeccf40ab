-- What holds for all keys.
use Rattle.std.specs.Prelude.{◌≡◌, ℕ, ◌≤◌, List}
use Rattle.std.specs.List.{AllByRecursion}
use Rattle.text_cid.specs.Alphabets.{AreBytes}
use Rattle.program_records.specs.Keys.{key_text, IsNamedBy}

-- the bytes include none that could end a word or a line
abbrev pub IsWord : List ℕ → Type 0
IsWord bytes = AllByRecursion (λ b. (0x21 ≤ b) × (b ≤ 0x7e)) bytes

-- the text of a key is one word
abbrev pub KeysAreWords : Type 0
KeysAreWords = (key : List ℕ) → AreBytes key → IsWord (key_text key)

-- different keys have different texts
abbrev pub KeyTextsDiffer : Type 0
KeyTextsDiffer = (key other : List ℕ) → AreBytes key → AreBytes other → key_text key ≡ key_text other → key ≡ other

-- The text of a key names that key.
abbrev pub KeysAreNamed : Type 0
KeysAreNamed = (key other : List ℕ) → AreBytes key → IsNamedBy (key_text key) other → other ≡ key
