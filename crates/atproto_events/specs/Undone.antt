-- A change undone on the pieces of a tree, and why a change is not undone.
use Rattle.std.specs.Prelude.{◌≡◌, ◌≢◌, ℕ, zero, suc, List, [], ◌∷◌, ◌++◌, Bool, false, Option, None, Some, is_some, if◌then◌else◌, ⊤}
use Rattle.std.specs.List.{AllByRecursion}
use Rattle.std.specs.declared.cmp.Ordering.TheVariants.{Less}
use Rattle.std.specs.Ordering.{nat_cmp, is_lt}
use Rattle.std.specs.Cmp.Lexicographic.{slice_cmp}
use Rattle.ipld_tree.specs.Cid.{CidParts}
use Rattle.atproto_mst.specs.Keys.{IsKey, key_layer}
use Rattle.atproto_mst.specs.Changes.{Changed}
use Rattle.atproto_events.specs.Pieces.{PieceParts, entry_piece, subtree_piece}
use Rattle.atproto_events.specs.declared.error.UndoError.{UndoError}
use Rattle.atproto_events.specs.declared.error.UndoError.TheVariants as error

-- the pieces after an entry of this key and record, if there is a record
abbrev pub with_piece : List ℕ → Option CidParts → List PieceParts → List PieceParts
with_piece key None ps = ps
with_piece key (Some value) ps = entry_piece key value ∷ ps

-- the last piece is an entry with a smaller key, or there are no pieces
abbrev pub EndsBefore : List ℕ → List PieceParts → Type 0
EndsBefore key [] = ⊤
EndsBefore key (p ∷ []) = (k : List ℕ) × (p.key ≡ Some k) × (slice_cmp nat_cmp k key ≡ Less)
EndsBefore key (p ∷ (q ∷ ps)) = EndsBefore key (q ∷ ps)

-- the first piece is an entry with a greater key, or there are no pieces
abbrev pub BeginsAfter : List ℕ → List PieceParts → Type 0
BeginsAfter key [] = ⊤
BeginsAfter key (p ∷ ps) = (k : List ℕ) × (p.key ≡ Some k) × (slice_cmp nat_cmp key k ≡ Less)

-- the key's record is that after the change (if none, it is absent), and then that before
pub record StepsBack (c : Changed) (old new : List PieceParts) : Type 0 where
  pub front : List PieceParts
  pub rest : List PieceParts
  pub was : old ≡ front ++ with_piece c.0 c.1.1 rest
  pub is : new ≡ front ++ with_piece c.0 c.1.0 rest
  pub between : c.1.1 ≡ None → EndsBefore c.0 front × BeginsAfter c.0 rest
  pub key : c.1.0 ≢ None → c.1.1 ≡ None → IsKey c.0

-- the changes are undone on the pieces, the last first
abbrev pub StepsBackAll : List Changed → List PieceParts → List PieceParts → Type 0
StepsBackAll [] old new = new ≡ old
StepsBackAll (c ∷ cs) old new = (between : List PieceParts) × StepsBackAll cs old between × StepsBack c between new

-- the piece at this index is an entry with this key
abbrev pub IsOfKey : List ℕ → ℕ → List PieceParts → Type 0
IsOfKey key i [] = ⊥
IsOfKey key zero (p ∷ ps) = p.key ≡ Some key
IsOfKey key (suc i) (p ∷ ps) = IsOfKey key i ps

-- whether a piece with this key is an entry that comes before `key`
abbrev pub comes_before : List ℕ → Option (List ℕ) → Bool
comes_before key None = false
comes_before key (Some other) = is_lt (slice_cmp nat_cmp other key)

-- the pieces from the first entry on
abbrev pub from_entry : List PieceParts → List PieceParts
from_entry [] = []
from_entry (p ∷ ps) = if is_some p.key then p ∷ ps else from_entry ps

-- the first piece, if there is one, is not an entry with a smaller key
abbrev pub IsNotBefore : List ℕ → List PieceParts → Type 0
IsNotBefore key [] = ⊤
IsNotBefore key (p ∷ ps) = comes_before key p.key ≡ false

-- an entry is in the layer of its key
abbrev pub IsPlaced : ℕ → Option (List ℕ) → Type 0
IsPlaced n None = ⊤
IsPlaced n (Some key) = n ≡ key_layer key

abbrev pub ArePlaced : List PieceParts → Type 0
ArePlaced ps = AllByRecursion (λ p. IsPlaced p.layer p.key) ps

-- ---- why it is not

-- the pieces have this record of the key; or they lack the key, and it belongs between two entries
pub record HasRecord (key : List ℕ) (value : Option CidParts) (ps : List PieceParts) : Type 0 where
  pub front : List PieceParts
  pub rest : List PieceParts
  pub is : ps ≡ front ++ with_piece key value rest
  pub between : value ≡ None → EndsBefore key front × BeginsAfter key rest

-- the key could only be in a subtree that was not opened, between the entries around it
pub record HidesKey (key : List ℕ) (name : CidParts) (ps : List PieceParts) : Type 0 where
  pub front : List PieceParts
  pub layer : ℕ
  pub rest : List PieceParts
  pub is : ps ≡ front ++ (subtree_piece layer name ∷ rest)
  pub before : EndsBefore key front
  pub following : BeginsAfter key (from_entry rest)

-- Out of memory, to restore a deleted entry; the subtree that may have the key is not stored; the
-- key is not valid; or the key does not have the record after the change.
abbrev pub StepFault : Changed → List PieceParts → UndoError → Type 0
StepFault c ps error.OutOfMemory = IsKey c.0 × (c.1.0 ≢ None) × (c.1.1 ≡ None)
StepFault c ps (error.MissingNode name) = HidesKey c.0 name ps
StepFault c ps error.KeyLength = ¬ IsKey c.0
StepFault c ps error.OtherState = (value : Option CidParts) × HasRecord c.0 value ps × (value ≢ c.1.1)
StepFault c ps _ = ⊥

-- the changes after one are undone, and that one is not
pub record StepsFault (cs : List Changed) (ps : List PieceParts) (e : UndoError) : Type 0 where
  pub before : List Changed
  pub this : Changed
  pub following : List Changed
  pub is : cs ≡ before ++ (this ∷ following)
  pub now : List PieceParts
  pub undone : StepsBackAll following ps now
  pub fault : StepFault this now e
