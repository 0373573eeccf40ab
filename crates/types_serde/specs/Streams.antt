-- Streams: values one after another.
use Rattle.std.specs.Prelude.{◌≡◌, ℕ, ◌+◌, ◌<◌, ◌≤◌, Bool, true, List, length, Option, None, Some, Result, Ok, Err, is_err, MatchBool}
use Rattle.std.specs.Iterator.{Count}
use Rattle.dagcbor_heads.specs.Reading.{Reading}
use Rattle.dagcbor_heads.specs.Fronts.{FindsEnd}
use Rattle.dagcbor_heads.specs.Inputs.{input_reading}
use Rattle.dagcbor_heads.specs.Refusals.{Refuses}
use Rattle.dagcbor_core.specs.declared.error.DecodeError.{DecodeError}
use Rattle.ipld_tree.specs.Tree.{Tree}
use Rattle.ipld_tree.specs.Spelling.{spelling}
use Rattle.dagcbor_items.specs.ItemsLeft.{items_left_of}
use Rattle.dagcbor_items.specs.ReadCauses.{ItemCause}
use Rattle.dagcbor_items.specs.Untyped.{TakesItem, HasItem}
use Rattle.types_serde.specs.declared.error.Error.{Error}
use Rattle.types_serde.specs.declared.error.Error.TheVariants.{NoBlock, Misfit}
use Rattle.types_serde.specs.declared.stream.Stream.{Stream}

-- what contracts see of a stream: its reader, and whether an error or the end was met
pub record StreamState : Type 0 where
  pub reading : Reading
  pub done : Bool

-- the state of a stream over a reader
abbrev pub stream_state : {R T : Type 0} → (R → Reading) → Stream R T → StreamState
stream_state reading s = record { reading = input_reading reading s.input; done = s.done }

-- if the bytes left are known, there are some
abbrev pub SomeLeft : Reading → Type 0
SomeLeft r = (b : List ℕ) → r.left ≡ Some b → 0 < length b

-- the bytes left are not empty, and the cause is found in them
abbrev pub CauseInSome : {E : Type 0} → ℕ → DecodeError E → List ℕ → Type 0
CauseInSome steps e b = (0 < length b) × ItemCause steps e b

-- a block was taken, and the type does not accept it, for a cause at a place in it
abbrev pub TakesMisfit : Reading → ℕ → Reading → Type 0
TakesMisfit old at new = (t : Tree) × TakesItem 0 old t new × (at ≤ length (spelling t))

-- The end is found; or a block is taken, and its value given or not accepted by the type; or no
-- block is read from the bytes left. A fault may come before it is known whether bytes are left.
abbrev pub ReadsNext : {T E : Type 0} → Reading → Option (Result T (Error E)) → Reading → Type 0
ReadsNext old None new = FindsEnd old new
ReadsNext old (Some (Ok v)) new = (t : Tree) × TakesItem 0 old t new
ReadsNext old (Some (Err (Misfit m at))) new = TakesMisfit old at new
ReadsNext old (Some (Err (NoBlock e))) new =
    Refuses (record {
      could = HasItem 0 old;
      lacks = SomeLeft old;
      borrows = ⊥;
      stands = CauseInSome (old.steps + 0);
    }) old e new

-- whether nothing comes after what `next` gave
abbrev pub is_last : {T E : Type 0} → Option (Result T (Error E)) → Bool
is_last None = true
is_last (Some r) = is_err r

-- What `next` does: a stream that is done gives nothing; otherwise it gives the result of reading
-- the next value.
abbrev pub GivesNext : {T E : Type 0} → StreamState → Option (Result T (Error E)) → StreamState
    → Type 0
GivesNext old item new = MatchBool old.done
    ((item ≡ None) × (new ≡ old))
    ((new.done ≡ is_last item) × ReadsNext old.reading item new.reading)

-- how many items may still come
abbrev pub items_left : StreamState → Count
items_left s = items_left_of s.done s.reading.left
