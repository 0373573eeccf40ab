-- What writing a value into memory, or to a device, returns.
use Rattle.std.specs.Prelude.{false, ◌≡◌, ◌⊎◌, ℕ, Bool, IsTrue, List, Any, None, Some, Option, IfSome, IsSomeAnd, Result, Ok, Err, ⊤}
use Rattle.std.specs.Io.KnownBytes.{Appends}
use Rattle.dagcbor_core.specs.declared.error.EncodeError.{EncodeError}
use Rattle.dagcbor_core.specs.declared.error.EncodeError.TheVariants.{Msg, Write, OutOfMemory}
use Rattle.dagcbor_core.specs.Messages.{message_bytes}
use Rattle.dagcbor_core.specs.Appends.{AppendsSome, AppendsFront}
use Rattle.ipld_tree.specs.Tree.{Tree}
use Rattle.ipld_tree.specs.Spelling.{spelling, IsSpellable, IsSpelling}
use Rattle.ipld_tree.specs.Spelled.{spelled_tree}

-- the value has no tree, or its tree has no spelling
abbrev pub HasNoSpelling : Option Tree → Type 0
HasNoSpelling tree = IfSome tree (λ t. ¬ IsSpellable t)

-- the bytes are the spelling of the value's tree
abbrev pub AreSpellingOf : Option Tree → List ℕ → Type 0
AreSpellingOf tree b = IsSomeAnd tree (IsSpelling b)

-- the spelling of the value's tree was appended to the bytes, if they are known
abbrev pub GrewBySpelling : Option Tree → Option (List ℕ) → Option (List ℕ) → Type 0
GrewBySpelling tree old new = IsSomeAnd tree
    (λ t. (b : List ℕ) × IsSpelling b t × Appends old new b)

-- some bytes were appended to known ones; if the value has a spelling, they are a beginning of it
abbrev pub GrewByFront : Option Tree → Option (List ℕ) → Option (List ℕ) → Type 0
GrewByFront tree old new = AppendsSome old new
    × IfSome tree (λ t. IsSpellable t → AppendsFront old new (spelling t))

-- a fault of the device, or out of memory: neither says anything about the value
abbrev pub IsWriteExcuse : {E : Type 0} → EncodeError E → Type 0
IsWriteExcuse (Msg m) = ⊥
IsWriteExcuse (Write e) = ⊤
IsWriteExcuse OutOfMemory = ⊤

-- the error is a message
abbrev pub IsMsg : {E : Type 0} → EncodeError E → Type 0
IsMsg (Msg m) = ⊤
IsMsg (Write e) = ⊥
IsMsg OutOfMemory = ⊥

-- P holds of the message's text, if the error is a message
abbrev pub OnMessage : {E : Type 0} → (List ℕ → Type 0) → EncodeError E → Type 0
OnMessage P (Msg m) = P (message_bytes m)
OnMessage P (Write e) = ⊤
OnMessage P OutOfMemory = ⊤

-- the message is this text, if the error is a message
abbrev pub IsMessage : {E : Type 0} → List ℕ → EncodeError E → Type 0
IsMessage text e = OnMessage (λ m. m ≡ text) e

-- a call is out of memory only if the writer may take memory, or before anything was written
abbrev pub LacksBefore : {T E : Type 0} → Bool → Type 0 → Result T (EncodeError E) → Type 0
LacksBefore may untouched (Err OutOfMemory) = IsTrue may ⊎ untouched
LacksBefore may untouched (Err (Msg m)) = ⊤
LacksBefore may untouched (Err (Write e)) = ⊤
LacksBefore may untouched (Ok x) = ⊤

-- ---- the message of a value that holds others

-- no message is allowed
abbrev pub NoMessage : List ℕ → Type 0
NoMessage m = ⊥

-- the part has no spelling, and this is its message
abbrev pub IsPartMessage : {A : Type 0} → (A → Option Tree) → (A → List ℕ → Type 0) → A → List ℕ
    → Type 0
IsPartMessage tree message x m = (spelled_tree (tree x) ≡ None) × message x m

-- one of the parts has no spelling, and this is its message
abbrev pub IsMessageOfAny : {A : Type 0} → (A → Option Tree) → (A → List ℕ → Type 0) → List A
    → List ℕ → Type 0
IsMessageOfAny tree message xs m = Any (λ x. IsPartMessage tree message x m) xs

-- one of the four holds of m
abbrev pub OneOf : (P Q R S : List ℕ → Type 0) → List ℕ → Type 0
OneOf P Q R S m = P m ⊎ (Q m ⊎ (R m ⊎ S m))

-- the message of an option is that of its part
abbrev pub option_message : {A : Type 0} → (A → List ℕ → Type 0) → Option A → List ℕ → Type 0
option_message message None m = ⊥
option_message message (Some x) m = message x m

-- whether the option's message comes before anything is written, as that of its part
abbrev pub option_unsent : {A : Type 0} → (A → Bool) → Option A → Bool
option_unsent unsent None = false
option_unsent unsent (Some x) = unsent x
