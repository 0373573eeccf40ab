-- Values that are spelled in memory before they are written.
use Rattle.std.specs.Prelude.{◌≡◌, ℕ, List, ◌++◌, Option, None, Some, IfSome, Result, Ok, Err, ⊤}
use Rattle.dagcbor_core.specs.declared.error.EncodeError.{EncodeError}
use Rattle.dagcbor_core.specs.declared.error.EncodeError.TheVariants.{Msg, Write, OutOfMemory}
use Rattle.dagcbor_core.specs.Messages.{message_bytes}
use Rattle.ipld_tree.specs.Tree.{Tree, IsTree}
use Rattle.ipld_tree.specs.Spelled.{spelled_tree}

-- values that wait until their number is known: their spellings in order, and how many they are
pub record Waiting : Type 0 where
  pub bytes : List ℕ
  pub count : ℕ

-- the text was appended to the bytes; false if there is no text
abbrev pub AppendsTo : List ℕ → List ℕ → Option (List ℕ) → Type 0
AppendsTo old new None = ⊥
AppendsTo old new (Some text) = new ≡ old ++ text

-- the spelling of a well-formed tree was appended to the bytes
abbrev pub Grows : Option Tree → List ℕ → List ℕ → Type 0
Grows tree old new = AppendsTo old new (spelled_tree tree) × IfSome tree IsTree

-- this is the message for a tree without a spelling, and the tree has no spelling
abbrev pub RefusedFor : List ℕ → Option Tree → List ℕ → Type 0
RefusedFor message tree m = (m ≡ message) × (spelled_tree tree ≡ None)

-- the value was refused: with a message only for its cause, and with no fault of a device
abbrev pub Refused : {E : Type 0} → (List ℕ → Type 0) → EncodeError E → Type 0
Refused Cause (Msg m) = Cause (message_bytes m)
Refused Cause (Write e) = ⊥
Refused Cause OutOfMemory = ⊤

-- the value was taken into memory, or refused
abbrev pub Collects : {T E : Type 0} → (T → Type 0) → (List ℕ → Type 0) → Result T (EncodeError E)
    → Type 0
Collects Taken Cause (Ok x) = Taken x
Collects Taken Cause (Err e) = Refused Cause e
