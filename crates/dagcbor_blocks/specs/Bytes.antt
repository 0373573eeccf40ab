-- Storing and returning blocks as bytes.
use Rattle.std.specs.Prelude.{◌≡◌, ◌≢◌, ◌↔◌, ℕ, List, [], ◌∷◌, map, is_some, Bool, Some, Result, MatchResult, Vec}
use Rattle.std.specs.List.Sorted.{IsStrictlySortedBy}
use Rattle.std.specs.declared.alloc.Global.{Global}
use Rattle.serde_ipld_dagcbor.specs.Cid.{CidParts, cid_cmp}
use Rattle.ipld_links.specs.Sound.{IsSound, IsUnsound}
use Rattle.files_car.specs.Car.{Section}
use Rattle.dagcbor_blocks.specs.Blocks.{Held, block_at, HoldsAlso, HoldsOther}
use Rattle.dagcbor_blocks.specs.declared.put_error.PutBlockError.{PutBlockError}
use Rattle.dagcbor_blocks.specs.declared.put_error.PutBlockError.TheVariants.{Unsound, Collision, OutOfMemory}

-- why bytes are not stored under a name: memory runs out only for a sound block
abbrev pub PutBytesRefused : Section → Held → PutBlockError → Type 0
PutBytesRefused s held (Unsound e) = IsUnsound s e
PutBytesRefused s held Collision = IsSound s × HoldsOther s.0 s.1 held
PutBytesRefused s held OutOfMemory = IsSound s

-- A sound block is stored under its name. A refusal changes nothing.
abbrev pub PutsBytes : Section → Held → Result (Unit {0}) PutBlockError → Held → Type 0
PutsBytes s old result new = MatchResult result
    (λ _. IsSound s × HoldsAlso old (s ∷ []) new)
    (λ e. (new ≡ old) × PutBytesRefused s old e)

-- whether a block is stored under the name
abbrev pub is_held : CidParts → Held → Bool
is_held name blocks = is_some (block_at name blocks)

-- the new blocks are the old ones under other names
abbrev pub HoldsOthers : CidParts → Held → Held → Type 0
HoldsOthers name old new = (q : CidParts) (b : List ℕ)
    → (block_at q new ≡ Some b) ↔ ((q ≢ name) × (block_at q old ≡ Some b))

-- the names of the stored blocks, each once, in the order of CIDs
abbrev pub AreHeldNames : Held → Vec CidParts Global → Type 0
AreHeldNames blocks v = (v.items ≡ map (λ e. e.0) blocks) × IsStrictlySortedBy cid_cmp v.items
