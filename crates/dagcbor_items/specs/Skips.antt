-- Where items in a row end, by their heads alone.
use Rattle.std.specs.Prelude.{◌≡◌, ◌==◌, ◌*◌, ◌+◌, ◌-◌, ◌<◌, ◌≤◌, ℕ, zero, suc, IsTrue}
use Rattle.std.specs.Prelude.{List, length, drop, Option, MatchOption, if◌then◌else◌}
use Rattle.dagcbor_core.specs.Splits.{SplitsHead}
use Rattle.dagcbor_decode.specs.Rows.{is_string}

-- how many items follow a head as parts of its item: the items of a list, the keys and values of a
-- map, or the byte string after the tag of a link (RFC 8949, section 3.1)
abbrev pub part_count : (major argument : ℕ) → ℕ
part_count major argument = if major == 4 then argument else if major == 5 then 2 * argument
    else if major == 6 then 1 else 0

-- the bytes begin with a head whose item has this many parts, and with its string if it has one
pub record PassesHead (b : List ℕ) (parts : ℕ) (rest : List ℕ) : Type 0 where
  pub major : ℕ
  pub argument : ℕ
  pub following : List ℕ
  pub split : SplitsHead b major argument following
  pub counted : parts ≡ part_count major argument
  pub there : IsTrue (is_string major) → argument ≤ length following
  pub left : rest ≡ (if is_string major then drop argument following else following)

-- after this many heads the items and all of their parts are passed, and `rest` follows
abbrev pub PassesHeads : (heads : ℕ) → List ℕ → (items : ℕ) → List ℕ → Type 0
PassesHeads zero b items rest = (items ≡ 0) × (b ≡ rest)
PassesHeads (suc heads) b items rest = (0 < items) × (parts : ℕ) × (following : List ℕ)
    × PassesHead b parts following × PassesHeads heads following (parts + (items - 1)) rest

-- by their heads, this many items are at the front, and these bytes follow
abbrev pub EndByHeads : List ℕ → (items : ℕ) → List ℕ → Type 0
EndByHeads b items rest = (heads : ℕ) × PassesHeads heads b items rest

-- the bytes after this many items are found, if and only if there are such items by their heads
abbrev pub FindsAfterItems : {A : Type 0} → (A → List ℕ) → List ℕ → (items : ℕ) → Option A → Type 0
FindsAfterItems bytes_of b items result = MatchOption result ((rest : List ℕ) → ¬ EndByHeads b items rest)
    (λ a. EndByHeads b items (bytes_of a))
