-- What the collector of a list holds and does.
use Rattle.std.specs.Prelude.{◌≡◌, ℕ, ◌+◌, ◌<◌, List, [], Option, None, Some, Result, OnErr, codes, ⊤}
use Rattle.std.specs.Fmt.{◌++?◌}
use Rattle.dagcbor_core.specs.declared.error.EncodeError.{EncodeError}
use Rattle.dagcbor_heads.specs.Written.{Written, Writes}
use Rattle.ipld_tree.specs.Tree.{Tree}
use Rattle.ipld_tree.specs.Spelled.{spelled_tree, spelled_head}
use Rattle.dagcbor_write.specs.declared.collect.collect_seq.ListState.{ListState}
use Rattle.dagcbor_write.specs.declared.collect.collect_seq.ListState.TheVariants.{Announced, Waits}
use Rattle.dagcbor_write.specs.Gathering.{Grows, RefusedFor, Collects}

-- what is written at the beginning of a list: its head, if the number of items is known
abbrev pub announced_head : Option ℕ → Option (List ℕ)
announced_head None = Some []
announced_head (Some n) = spelled_head 4 n

-- no item was taken yet
abbrev pub IsFresh : Option ℕ → ListState → Type 0
IsFresh (Some n) (Announced left) = left ≡ n
IsFresh None (Waits b) = b ≡ record { bytes = []; count = 0 }
IsFresh (Some n) (Waits b) = ⊥
IsFresh None (Announced left) = ⊥

-- how many of the announced items are still to come, or `None` if no number was announced
abbrev pub elements_left : ListState → Option ℕ
elements_left (Announced left) = Some left
elements_left (Waits b) = None

-- one more item may be taken
abbrev pub HasRoom : ListState → Type 0
HasRoom (Announced left) = 0 < left
HasRoom (Waits b) = ⊤

-- the items are as many as were announced
abbrev pub IsComplete : ListState → Type 0
IsComplete (Announced left) = left ≡ 0
IsComplete (Waits b) = ⊤

-- an item was written, or it joined those that wait and nothing was written; a refusal leaves those
-- that wait as they were
abbrev pub TakesElement : {T E : Type 0} → Option Tree → ListState → Written → ListState → Written
    → Result T (EncodeError E) → Type 0
TakesElement tree (Announced left) s (Announced rest) t r = Writes (spelled_tree tree) s t r
    × (rest + 1 ≡ left)
TakesElement tree (Waits b) s (Waits d) t r =
    Collects (λ x. Grows tree b.bytes d.bytes × (d.count ≡ b.count + 1))
    (RefusedFor (codes "List element cannot be serialized") tree) r × (t ≡ s) × OnErr r (d ≡ b)
TakesElement tree (Announced left) s (Waits d) t r = ⊥
TakesElement tree (Waits b) s (Announced rest) t r = ⊥

-- what is written at the end of a list: the items that waited, after their number
abbrev pub waiting_text : ListState → Option (List ℕ)
waiting_text (Announced left) = Some []
waiting_text (Waits b) = spelled_head 4 b.count ++? Some b.bytes
