-- The parts of a tuple that is written. Some at the end may be absent.
use Rattle.std.specs.Prelude.{◌≡◌, ◌⊎◌, ℕ, Bool, true, false, codes, List, [], ◌∷◌, Option, None, Some}
use Rattle.serde_ipld_dagcbor.specs.Answers.{IsPartMessage}
use Rattle.serde_ipld_dagcbor.specs.Tree.{Tree}

-- A part that may be absent if no part comes after it. An absent part before another has no tree,
-- and so the list has none.
abbrev pub optional_part : {A : Type 0} → (A → Option Tree) → Option A → List (Option Tree)
    → List (Option Tree)
optional_part tree (Some x) others = tree x ∷ others
optional_part tree None [] = []
optional_part tree None (other ∷ others) = None ∷ other ∷ others

-- the message of a row that begins with a part: that of the part, or of those after it
abbrev pub part_message : {A : Type 0} → (A → Option Tree) → (A → List ℕ → Type 0)
    → (List ℕ → Type 0) → A → List ℕ → Type 0
part_message tree message others x m = IsPartMessage tree message x m ⊎ others m

-- whether a part is absent before others
abbrev pub is_gap : {A : Type 0} → Option A → List (Option Tree) → Bool
is_gap (Some x) others = false
is_gap None [] = false
is_gap None (other ∷ others) = true

-- the message of an absent part before others
abbrev pub IsGapMessage : List ℕ → Type 0
IsGapMessage m = m ≡ codes "a part is absent before another"

-- the message of a part that may be absent
abbrev pub optional_message : {A : Type 0} → (A → Option Tree) → (A → List ℕ → Type 0)
    → List (Option Tree) → (List ℕ → Type 0) → Option A → List ℕ → Type 0
optional_message tree message trees others (Some x) m = part_message tree message others x m
optional_message tree message [] others None m = ⊥
optional_message tree message (other ∷ trees) others None m = IsGapMessage m
